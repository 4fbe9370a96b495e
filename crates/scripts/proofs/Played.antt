-- A script that is played line by line.
use Rattle.std.proofs.Common.{◌≡◌, ℕ, List, [], ◌++◌, Option, Some, None, IfSome, refl, sym, ap, ◌∙◌, append_assoc, append-nil}
use Rattle.std.specs.Io.KnownBytes.{Appends}
use Rattle.std.proofs.KnownBytes.{Appends-nil, Appends-trans}
use Rattle.scripts.specs.Lines.{lines_of, IsFirstLine}
use Rattle.scripts.specs.Step.{State}
use Rattle.scripts.specs.Output.{outputs, lines, played}
use Rattle.scripts.specs.Going.{Going}
use Rattle.wire.specs.Bytes.{AppendsFront}
use Rattle.wire.proofs.Bytes.{front_front}
use Rattle.wire.proofs.Heads.{at_rest}

pub begins : (o w : Option (List ℕ)) → IfSome o (λ script. Going w w o None script)
begins None w = tt
begins (Some script) w = record { rest = script; is_left = refl; front = []; written = Appends-nil w; whole = refl }

some_is : (x y : List ℕ) → Some x ≡ Some y → x ≡ y
some_is x y e = cc

ends_one : (w v left : Option (List ℕ)) (s : State) (script : List ℕ) → Going w v left s script → IfSome left (λ bytes. bytes ≡ []) → Appends w v (lines script)
ends_one w v left s script g h =
    let none : g.rest ≡ [] = at_rest (λ bytes. bytes ≡ []) left g.rest g.is_left h in
    let e : lines script ≡ g.front = g.whole ∙ ap (λ r. g.front ++ outputs s (lines_of r)) none ∙ append-nil g.front in
    rw e g.written

pub is_over : (o w v left : Option (List ℕ)) (s : State) → IfSome o (Going w v left s) → IfSome left (λ bytes. bytes ≡ []) → IfSome o (λ script. Appends w v (lines script))
is_over None w v left s g h = tt
is_over (Some script) w v left s g h = ends_one w v left s script g h

goes_one : (w v u left after_left : Option (List ℕ)) (s : State) (script line : List ℕ) → Going w v left s script → IfSome left (λ bytes. IsFirstLine bytes line after_left) → Appends v u (played s line).1 → Going w u after_left (played s line).0 script
goes_one w v u left after_left s script line g h p =
    let first = at_rest (λ bytes. IsFirstLine bytes line after_left) left g.rest g.is_left h in
    record {
      rest = first.0;
      is_left = first.1;
      front = g.front ++ (played s line).1;
      written = Appends-trans w v u g.front (played s line).1 g.written p;
      whole = g.whole ∙ ap (λ ls. g.front ++ outputs s ls) first.2 ∙ sym (append_assoc g.front (played s line).1 (outputs (played s line).0 (lines_of first.0)));
    }

pub goes_on : (o w v u left after_left : Option (List ℕ)) (s : State) (line : List ℕ) → IfSome o (Going w v left s) → IfSome left (λ bytes. IsFirstLine bytes line after_left) → Appends v u (played s line).1 → IfSome o (Going w u after_left (played s line).0)
goes_on None w v u left after_left s line g h p = tt
goes_on (Some script) w v u left after_left s line g h p = goes_one w v u left after_left s script line g h p

-- a refusal before anything is written
pub stops : (o w v left : Option (List ℕ)) (s : State) → IfSome o (Going w v left s) → IfSome o (λ script. AppendsFront w v (lines script))
stops None w v left s g = tt
stops (Some script) w v left s g = (g.front, (outputs s (lines_of g.rest), g.whole), g.written)

-- a refusal of a write
pub cut_short : (o w v u left after_left : Option (List ℕ)) (s : State) (line : List ℕ) → IfSome o (Going w v left s) → IfSome left (λ bytes. IsFirstLine bytes line after_left) → AppendsFront v u (played s line).1 → IfSome o (λ script. AppendsFront w u (lines script))
cut_short None w v u left after_left s line g h f = tt
cut_short (Some script) w v u left after_left s line g h f =
    let first = at_rest (λ bytes. IsFirstLine bytes line after_left) left g.rest g.is_left h in
    front_front w v u g.front (played s line).1 (lines script) g.written f (outputs (played s line).0 (lines_of first.0)) (g.whole ∙ ap (λ ls. g.front ++ outputs s ls) first.2)
