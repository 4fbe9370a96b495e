-- A stream that is served.
use Rattle.std.proofs.Common.{◌≡◌, ℕ, ◌+◌, true, false, true≢false, List, [], ◌∷◌, ◌++◌, Option, Some, None, IfSome, refl, sym, ap, ◌∙◌, arith, append_assoc, append-nil, length-append}
use Rattle.std.specs.Io.KnownBytes.{Appends}
use Rattle.std.proofs.KnownBytes.{Appends-nil, Appends-trans}
use Rattle.doc.specs.Mapping.{MappingData}
use Rattle.wire.specs.declared.reading.Whole.{Whole}
use Rattle.wire.specs.declared.fault.StreamFault.{StreamFault}
use Rattle.wire.specs.declared.fault.StreamFault.TheVariants.{Read, Write, NoMemory}
use Rattle.wire.specs.Bytes.{AppendsFront}
use Rattle.wire.specs.Fault.{is_write}
use Rattle.front.specs.Command.{Command}
use Rattle.wire.specs.Framing.{first}
use Rattle.wire.specs.Reading.{IsRead, IsStanding, ends}
use Rattle.front.specs.Reply.{Reply}
use Rattle.wire.specs.Requests.{Standing, requests}
use Rattle.front.specs.Serving.{Answered, Begun, Serves, Partly, Served, Stopped, Going}
use Rattle.front.specs.Work.{work_of}
use Rattle.front.proofs.Calls.{begun_none}
use Rattle.wire.proofs.Standings.{Reads, read_one, read_none}
use Rattle.wire.proofs.Heads.{at_rest}

module _ {S : Type 0} (answers : S → Command → Reply → S → Type 0) (index : List ℕ) (mapping : MappingData) where
  pub one_more : (s m t : S) (qs : List Standing) (q : Standing) (out one : List ℕ) → Serves answers index mapping s qs out m → Answered false answers index (work_of index mapping q) m one t
      → Serves answers index mapping s (qs ++ q ∷ []) (out ++ one) t
  one_more s m t [] q out one h a =
      let a' : Answered false answers index (work_of index mapping q) s one t = rw h.0 at a in
      (t, one, [], a', (refl, refl), ap (λ o. o ++ one) h.1 ∙ sym (append-nil one))
  one_more s m t (p ∷ qs) q out one h a =
      (h.0, h.1, h.2 ++ one, h.3, one_more h.0 m t qs q h.2 one h.4 a, ap (λ o. o ++ one) h.5 ∙ append_assoc h.1 h.2 one)

  none_more : (e : StreamFault) → is_write e ≡ false → (s : S) (qs : List Standing) → Partly answers index mapping e s qs [] s
  none_more Read is s qs = (refl, refl)
  none_more Write is s qs = absurd (true≢false is)
  none_more NoMemory is s [] = (refl, refl)
  none_more NoMemory is s (q ∷ qs) = (begun_none answers (work_of index mapping q) s, refl)

  pub begins : (start out : Option (List ℕ)) (s : S) → IfSome start (Going answers index mapping s s out out start 0)
  begins None out s = tt
  begins (Some bytes) out s = record {
    rest = bytes;
    is_left = refl;
    done = [];
    split = refl;
    counted = refl;
    out = [];
    serves = (refl, refl);
    written = Appends-nil out;
  }

  -- a fault before a request is read, or while it is
  pub stops : (start left old new : Option (List ℕ)) (s t : S) (count : ℕ) (e : StreamFault) → is_write e ≡ false → IfSome start (Going answers index mapping s t old new left count)
      → IfSome start (Stopped answers index mapping s t old new e)
  stops None left old new s t count e is g = tt
  stops (Some bytes) left old new s t count e is g = record {
    out = g.out;
    cut = record { done = g.done; left = requests 1048576 g.rest; split = g.split; middle = t; whole = g.out; served = g.serves; part = []; partly = none_more e is t (requests 1048576 g.rest); written = sym (append-nil g.out) };
    written = g.written;
  }

  pub is_over : (start left after old new : Option (List ℕ)) (s t : S) (count : ℕ) → IfSome start (Going answers index mapping s t old new left count) → IfSome left (λ bs. IsRead (first 1048576 bs) None after)
      → IfSome start (Served answers index mapping s t old new count)
  is_over None left after old new s t count g r = tt
  is_over (Some bytes) left after old new s t count g r =
      let none = read_none 1048576 after g.rest (at_rest (λ bs. IsRead (first 1048576 bs) None after) left g.rest g.is_left r) in
      let all : requests 1048576 bytes ≡ g.done = g.split ∙ ap (λ l. g.done ++ l) none ∙ append-nil g.done in
      record { out = g.out; serves = rw all g.serves; written = g.written; counted = rw all g.counted }

  reads : (left after : Option (List ℕ)) (rest : List ℕ) (w : Whole) → left ≡ Some rest → IfSome left (λ bs. IsRead (first 1048576 bs) (Some w) after) → Reads 1048576 w after (requests 1048576 rest)
  reads left after rest w e r = read_one 1048576 w after rest (at_rest (λ bs. IsRead (first 1048576 bs) (Some w) after) left rest e r)

  -- a fault while the request is answered
  pub stops_answering : (start left after old new : Option (List ℕ)) (s t u : S) (count : ℕ) (w : Whole) → IfSome start (Going answers index mapping s t old new left count)
      → IfSome left (λ bs. IsRead (first 1048576 bs) (Some w) after) → ((q : Standing) → IsStanding w q → Begun answers (work_of index mapping q) t u) → IfSome start (Stopped answers index mapping s u old new NoMemory)
  stops_answering None left after old new s t u count w g r b = tt
  stops_answering (Some bytes) left after old new s t u count w g r b =
      let one = reads left after g.rest w g.is_left r in
      record {
        out = g.out;
        cut = record {
          done = g.done;
          left = one.one ∷ one.others;
          split = g.split ∙ ap (λ l. g.done ++ l) one.split;
          middle = t;
          whole = g.out;
          served = g.serves;
          part = [];
          partly = (b one.one one.is_one, refl);
          written = sym (append-nil g.out);
        };
        written = g.written;
      }

  -- a fault while its page is written
  pub stops_writing : (start left after old mid new : Option (List ℕ)) (s t u : S) (count : ℕ) (w : Whole) (page : List ℕ) → IfSome start (Going answers index mapping s t old mid left count)
      → IfSome left (λ bs. IsRead (first 1048576 bs) (Some w) after) → ((q : Standing) → IsStanding w q → Answered false answers index (work_of index mapping q) t page u) → AppendsFront mid new page
      → IfSome start (Stopped answers index mapping s u old new Write)
  stops_writing None left after old mid new s t u count w page g r a f = tt
  stops_writing (Some bytes) left after old mid new s t u count w page g r a f =
      let one = reads left after g.rest w g.is_left r in
      record {
        out = g.out ++ f.0;
        cut = record {
          done = g.done;
          left = one.one ∷ one.others;
          split = g.split ∙ ap (λ l. g.done ++ l) one.split;
          middle = t;
          whole = g.out;
          served = g.serves;
          part = f.0;
          partly = (page, a one.one one.is_one, f.1);
          written = refl;
        };
        written = Appends-trans old mid new g.out f.0 g.written f.2;
      }

  -- the page was written, and the stream ends
  pub ends_after : (start left after old mid new : Option (List ℕ)) (s t u : S) (count : ℕ) (w : Whole) (page : List ℕ) → IfSome start (Going answers index mapping s t old mid left count)
      → IfSome left (λ bs. IsRead (first 1048576 bs) (Some w) after) → ((q : Standing) → IsStanding w q → Answered false answers index (work_of index mapping q) t page u) → Appends mid new page → ends w ≡ true
      → IfSome start (Served answers index mapping s u old new (count + 1))
  ends_after None left after old mid new s t u count w page g r a p e = tt
  ends_after (Some bytes) left after old mid new s t u count w page g r a p e =
      let one = reads left after g.rest w g.is_left r in
      let all : requests 1048576 bytes ≡ g.done ++ one.one ∷ [] = g.split ∙ ap (λ l. g.done ++ l) (one.split ∙ ap (λ l. one.one ∷ l) (one.last e)) in
      record {
        out = g.out ++ page;
        serves = rw all (one_more s t u g.done one.one g.out page g.serves (a one.one one.is_one));
        written = Appends-trans old mid new g.out page g.written p;
        counted = rw all (omega (arith, g.counted, length-append g.done (one.one ∷ [])));
      }

  -- the page was written, and the stream goes on
  pub goes_on : (start left after old mid new : Option (List ℕ)) (s t u : S) (count : ℕ) (w : Whole) (page : List ℕ) → IfSome start (Going answers index mapping s t old mid left count)
      → IfSome left (λ bs. IsRead (first 1048576 bs) (Some w) after) → ((q : Standing) → IsStanding w q → Answered false answers index (work_of index mapping q) t page u) → Appends mid new page → ends w ≡ false
      → IfSome start (Going answers index mapping s u old new after (count + 1))
  goes_on None left after old mid new s t u count w page g r a p e = tt
  goes_on (Some bytes) left after old mid new s t u count w page g r a p e =
      let one = reads left after g.rest w g.is_left r in
      let more = one.goes_on e in
      record {
        rest = more.0;
        is_left = more.1;
        done = g.done ++ one.one ∷ [];
        split = g.split ∙ ap (λ l. g.done ++ l) (one.split ∙ ap (λ l. one.one ∷ l) more.2) ∙ sym (append_assoc g.done (one.one ∷ []) (requests 1048576 more.0));
        counted = omega (arith, g.counted, length-append g.done (one.one ∷ []));
        out = g.out ++ page;
        serves = one_more s t u g.done one.one g.out page g.serves (a one.one one.is_one);
        written = Appends-trans old mid new g.out page g.written p;
      }
