-- The head that is read is that of httparse's grammar.
use Rattle.std.proofs.Common.{◌≡◌, ℕ, List, Option, Some, None, Result, Ok, Err, IfOk, option_map, refl, sym, ap, ◌∙◌, arith}
use Rattle.httparse.proofs.GrammarLemmas.{RequestTree, request_tree, request_head, request_pieces, request_from_pieces}
use Rattle.wire.specs.Head.{HeadData, IsHead}
use Rattle.wire.specs.HeadReading.{head_at, both, start_line, section, head_of}
use Rattle.wire.proofs.Readers.{head_reads}

no_head : (bytes : List ℕ) (o : Option (RequestTree × List ℕ)) → both start_line (section 64) bytes ≡ o → IsHead bytes None → None ≡ option_map (λ x. head_at x.0) o
no_head bytes None e h = refl
no_head bytes (Some x) e h =
    let read = head_reads.sound bytes x.0 x.1 e in
    let many = h (request_head x.0) x.1 (request_from_pieces bytes x.0 x.1 (read.0, read.1, read.2.0)) in
    absurd (omega (arith, many, read.2.1))

pub is_head_of : (bytes : List ℕ) (o : Option HeadData) → IsHead bytes o → o ≡ head_of bytes
unfolding head_of
is_head_of bytes None h = no_head bytes (both start_line (section 64) bytes) refl h
is_head_of bytes (Some d) h =
    let pieces = request_pieces bytes h.0 h.1 h.2 in
    let read = head_reads.complete bytes (request_tree h.0) h.1 (pieces.0, pieces.1, (pieces.2, h.3)) in
    ap Some h.4 ∙ sym (ap (option_map (λ x. head_at x.0)) read)

pub is_head_if_ok : {X E : Type 0} (view : X → Option HeadData) (bytes : List ℕ) (r : Result X E) → IfOk r (λ h. IsHead bytes (view h)) → IfOk r (λ h. view h ≡ head_of bytes)
is_head_if_ok view bytes (Ok x) h = is_head_of bytes (view x) h
is_head_if_ok view bytes (Err e) h = tt
