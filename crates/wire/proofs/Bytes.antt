-- What writes leave.
use Rattle.std.proofs.Common.{◌≡◌, ℕ, List, [], ◌++◌, length, take, drop, Option, Some, None, refl, sym, ap, ◌∙◌, append_assoc, append-nil, take-append-drop}
use Rattle.std.specs.Io.KnownBytes.{Appends, Keeps}
use Rattle.std.proofs.KnownBytes.{Appends-nil, Appends-trans, Appends-kept}
use Rattle.std.proofs.lemmas.List.{nil_from_length}
use Rattle.wire.specs.Bytes.{AppendsFront}

-- some of the bytes were written, and these are left
pub record Written (old new : Option (List ℕ)) (all rest : List ℕ) : Type 0 where
  pub done : List ℕ
  pub split : all ≡ done ++ rest
  pub appended : Appends old new done

pub none_written : (old : Option (List ℕ)) (all : List ℕ) → Written old old all all
none_written old all = record { done = []; split = refl; appended = Appends-nil old }

pub more_written : (a b c : Option (List ℕ)) (all rest : List ℕ) (n : ℕ) → Written a b all rest → Appends b c (take n rest) → Written a c all (drop n rest)
more_written a b c all rest n w p = record {
  done = w.done ++ take n rest;
  split = w.split ∙ ap (λ t. w.done ++ t) (sym (take-append-drop n rest)) ∙ sym (append_assoc w.done (take n rest) (drop n rest));
  appended = Appends-trans a b c w.done (take n rest) w.appended p;
}

pub is_written : (a b : Option (List ℕ)) (all rest : List ℕ) → Written a b all rest → length rest ≡ 0 → Appends a b all
is_written a b all rest w none =
    let e : all ≡ w.done = w.split ∙ ap (λ t. w.done ++ t) (nil_from_length rest none) ∙ append-nil w.done in
    rw e w.appended

pub front_written : (a b c : Option (List ℕ)) (all rest : List ℕ) → Written a b all rest → Keeps b c → AppendsFront a c all
front_written a b c all rest w k = (w.done, (rest, w.split), Appends-kept a b c w.done w.appended k)

pub keeps_none : (b c : Option (List ℕ)) (rest : List ℕ) → Appends b c (take 0 rest) → Keeps b c
keeps_none None c rest p = tt
keeps_none (Some x) None rest p = absurd p
keeps_none (Some x) (Some y) rest p = p ∙ append-nil x

-- a front and more of it
pub front_front : (a b c : Option (List ℕ)) (done more all : List ℕ) → Appends a b done → AppendsFront b c more → (tail : List ℕ) → all ≡ done ++ (more ++ tail) → AppendsFront a c all
front_front a b c done more all p f tail e = (done ++ f.0, ((f.1.0 ++ tail), e ∙ ap (λ t. done ++ (t ++ tail)) f.1.1 ∙ ap (λ t. done ++ t) (append_assoc f.0 f.1.0 tail) ∙ sym (append_assoc done f.0 (f.1.0 ++ tail))), Appends-trans a b c done f.0 p f.2)
