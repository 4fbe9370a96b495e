-- Numbers noted at ids.
use Rattle.std.proofs.Common.{◌≡◌, ℕ, Bool, true, false, cond, List, [], ◌∷◌, ◌++◌, if◌then◌else◌, Option, Some, None, option_map, max, unwrap_or, refl, sym, ap, ◌∙◌, arith}
use Rattle.std.specs.Option.{option_or}
use Rattle.std.specs.Cmp.{eq_by_cmp_equiv}
use Rattle.std.specs.Cmp.Lexicographic.{nat_list_cmp_total}
use Rattle.std.proofs.lemmas.Map.Lookups.{exact_bytes}
use Rattle.std.proofs.lemmas.Map.Views.{tells_apart}
use Rattle.doc.specs.Id.{Id, is_id}
use Rattle.op.specs.declared.operation.Op.{Op}
use Rattle.op.specs.Operations.{is_on, last_on}
use Rattle.op.proofs.OperationLaws.{last_on-push}
use Rattle.engine.specs.OperationIndex.{noted, raised}

either_way : (i w : Id) → is_id i w ≡ is_id w i
either_way i w = (eq_by_cmp_equiv nat_list_cmp_total).symm i w

raised_value : (m : ℕ) (n : Option ℕ) → Some (max m (unwrap_or n m)) ≡ raised m n
raised_value m None = ap Some (omega arith)
raised_value m (Some n) = refl

-- where the number at an id is raised to m, each other stays
pub raised-at : (old : Id → Option ℕ) (i w : Id) (m v last : ℕ) (here new : Option ℕ) → new ≡ cond (is_id i w) (Some v) (old w) → v ≡ max m last → last ≡ unwrap_or here m → here ≡ old i
    → new ≡ (if is_id w i then raised m (old w) else old w)
raised-at old i w m v last here new is value found there = is ∙ ap (λ b. cond b (Some v) (old w)) (either_way i w) ∙ by_test (is_id w i) refl
  where
    raised_here : Some v ≡ raised m (old i)
    raised_here = ap Some (value ∙ ap (max m) found) ∙ raised_value m here ∙ ap (raised m) there

    by_test : (b : Bool) → is_id w i ≡ b → cond b (Some v) (old w) ≡ (if b then raised m (old w) else old w)
    by_test true same = raised_here ∙ ap (λ u. raised m (old u)) (sym (tells_apart exact_bytes w i same))
    by_test false same = refl

-- one more is noted, and the others are left
pub noted-step : (p : Id × ℕ) (ps : List (Id × ℕ)) (id : Id) (old new whole : Option ℕ)
    → new ≡ cond (is_id p.0 id) (Some p.1) old → noted (p ∷ ps) id old ≡ whole → noted ps id new ≡ whole
noted-step p ps id old new whole is so_far = ap (noted ps id) (is ∙ ap (λ b. cond b (Some p.1) old) (either_way p.0 id)) ∙ so_far

noted-push : (ps : List (Id × ℕ)) (p : Id × ℕ) (id : Id) (n : Option ℕ) → noted (ps ++ p ∷ []) id n ≡ (if is_id id p.0 then Some p.1 else noted ps id n)
noted-push [] p id n = refl
noted-push (q ∷ ps) p id n = noted-push ps p id (if is_id id q.0 then Some q.1 else n)

-- the pairs have at each id the number of the last operation on it
abbrev pub AreNoted : List (Id × ℕ) → List Op → Type 0
AreNoted ps os = (id : Id) (n : Option ℕ) → noted ps id n ≡ option_or (option_map (λ o. o.seq) (last_on os id)) n

number_of : (b : Bool) (o : Op) (l : Option Op) (n : Option ℕ) → (if b then Some o.seq else option_or (option_map (λ p. p.seq) l) n) ≡ option_or (option_map (λ p. p.seq) (if b then Some o else l)) n
number_of true o l n = refl
number_of false o l n = refl

pub AreNoted-push : (ps : List (Id × ℕ)) (p : Id × ℕ) (os : List Op) (o : Op) → ((id : Id) → is_id id p.0 ≡ is_on id o) → p.1 ≡ o.seq → AreNoted ps os → AreNoted (ps ++ p ∷ []) (os ++ o ∷ [])
AreNoted-push ps p os o on same noted_so_far = λ id n.
    noted-push ps p id n
    ∙ ap (λ b. if b then Some p.1 else noted ps id n) (on id)
    ∙ ap (λ m. if is_on id o then Some m else noted ps id n) same
    ∙ ap (λ m. if is_on id o then Some o.seq else m) (noted_so_far id n)
    ∙ number_of (is_on id o) o (last_on os id) n
    ∙ sym (ap (λ l. option_or (option_map (λ (q : Op). q.seq) l) n) (last_on-push os o id))

pub AreNoted-skip : (ps : List (Id × ℕ)) (os : List Op) (o : Op) → ((id : Id) → is_on id o ≡ false) → AreNoted ps os → AreNoted ps (os ++ o ∷ [])
AreNoted-skip ps os o off noted_so_far = λ id n.
    noted_so_far id n
    ∙ sym (ap (λ l. option_or (option_map (λ (q : Op). q.seq) l) n) (last_on-push os o id ∙ ap (λ b. if b then Some o else last_on os id) (off id)))
