-- Marks joined with tests, one after another.
use Rattle.std.proofs.Common.{◌≡◌, ◌≤◌, ℕ, ◌+◌, zero, suc, Bool, true, false, not, ◌&&◌, ◌||◌, List, [], ◌∷◌, length, map, refl, ap, ◌∙◌, arith, replicate, if◌then◌else◌, All}
use Rattle.marks.specs.Lists.{zip_with}

module _ {A B C : Type 0} where
  pub length-zip : (f : A → B → C) (xs : List A) (ys : List B) → length xs ≡ length ys → length (zip_with f xs ys) ≡ length ys
  length-zip f [] [] same = refl
  length-zip f [] (y ∷ ys) same = absurd (omega (arith, same))
  length-zip f (x ∷ xs) [] same = absurd (omega (arith, same))
  length-zip f (x ∷ xs) (y ∷ ys) same = ap suc (length-zip f xs ys (omega (arith, same)))

  pub zip-self : (op : A → B → C) (f : B → A) (xs : List B) → zip_with op (map f xs) xs ≡ map (λ x. op (f x) x) xs
  zip-self op f [] = refl
  zip-self op f (x ∷ xs) = ap (λ ys. op (f x) x ∷ ys) (zip-self op f xs)

and_and : (b p r : Bool) → ((b && p) && r) ≡ (b && (p && r))
and_and true p r = refl
and_and false p r = refl

or_or : (b p r : Bool) → ((b || p) || r) ≡ (b || (p || r))
or_or true p r = refl
or_or false p r = refl

and_true : (b : Bool) → (b && true) ≡ b
and_true true = refl
and_true false = refl

or_false : (b : Bool) → (b || false) ≡ b
or_false true = refl
or_false false = refl

plus : (n r : ℕ) (b : Bool) → (if b then n + 1 else n) + r ≡ n + ((if b then 1 else 0) + r)
plus n r true = omega arith
plus n r false = omega arith

module _ {A : Type 0} where
  pub and-more : (p r : A → Bool) (bs : List Bool) (xs : List A) → zip_with (λ b x. b && r x) (zip_with (λ a b. a && b) bs (map p xs)) xs ≡ zip_with (λ b x. b && (p x && r x)) bs xs
  and-more p r [] xs = refl
  and-more p r (b ∷ bs) [] = refl
  and-more p r (b ∷ bs) (x ∷ xs) = ap (λ c. c ∷ zip_with (λ b x. b && r x) (zip_with (λ a b. a && b) bs (map p xs)) xs) (and_and b (p x) (r x)) ∙ ap (λ cs. (b && (p x && r x)) ∷ cs) (and-more p r bs xs)

  pub minus-more : (p r : A → Bool) (bs : List Bool) (xs : List A) → zip_with (λ b x. b && r x) (zip_with (λ a b. a && not b) bs (map p xs)) xs ≡ zip_with (λ b x. b && (not (p x) && r x)) bs xs
  minus-more p r [] xs = refl
  minus-more p r (b ∷ bs) [] = refl
  minus-more p r (b ∷ bs) (x ∷ xs) = ap (λ c. c ∷ zip_with (λ b x. b && r x) (zip_with (λ a b. a && not b) bs (map p xs)) xs) (and_and b (not (p x)) (r x)) ∙ ap (λ cs. (b && (not (p x) && r x)) ∷ cs) (minus-more p r bs xs)

  pub or-more : (p r : A → Bool) (bs : List Bool) (xs : List A) → zip_with (λ b x. b || r x) (zip_with (λ b x. b || p x) bs xs) xs ≡ zip_with (λ b x. b || (p x || r x)) bs xs
  or-more p r [] xs = refl
  or-more p r (b ∷ bs) [] = refl
  or-more p r (b ∷ bs) (x ∷ xs) = ap (λ c. c ∷ zip_with (λ b x. b || r x) (zip_with (λ b x. b || p x) bs xs) xs) (or_or b (p x) (r x)) ∙ ap (λ cs. (b || (p x || r x)) ∷ cs) (or-more p r bs xs)

  pub count-more : (p : A → Bool) (r : A → ℕ) (ns : List ℕ) (xs : List A) → zip_with (λ n x. n + r x) (zip_with (λ n b. if b then n + 1 else n) ns (map p xs)) xs ≡ zip_with (λ n x. n + ((if p x then 1 else 0) + r x)) ns xs
  count-more p r [] xs = refl
  count-more p r (n ∷ ns) [] = refl
  count-more p r (n ∷ ns) (x ∷ xs) = ap (λ c. c ∷ zip_with (λ n x. n + r x) (zip_with (λ n b. if b then n + 1 else n) ns (map p xs)) xs) (plus n (r x) (p x)) ∙ ap (λ cs. (n + ((if p x then 1 else 0) + r x)) ∷ cs) (count-more p r ns xs)

  pub and-end : (bs : List Bool) (xs : List A) → length bs ≡ length xs → zip_with (λ b x. b && true) bs xs ≡ bs
  and-end [] xs same = refl
  and-end (b ∷ bs) [] same = absurd (omega (arith, same))
  and-end (b ∷ bs) (x ∷ xs) same = ap (λ c. c ∷ zip_with (λ b x. b && true) bs xs) (and_true b) ∙ ap (λ cs. b ∷ cs) (and-end bs xs (omega (arith, same)))

  pub or-end : (bs : List Bool) (xs : List A) → length bs ≡ length xs → zip_with (λ b x. b || false) bs xs ≡ bs
  or-end [] xs same = refl
  or-end (b ∷ bs) [] same = absurd (omega (arith, same))
  or-end (b ∷ bs) (x ∷ xs) same = ap (λ c. c ∷ zip_with (λ b x. b || false) bs xs) (or_false b) ∙ ap (λ cs. b ∷ cs) (or-end bs xs (omega (arith, same)))

  pub count-end : (ns : List ℕ) (xs : List A) → length ns ≡ length xs → zip_with (λ n x. n + 0) ns xs ≡ ns
  count-end [] xs same = refl
  count-end (n ∷ ns) [] same = absurd (omega (arith, same))
  count-end (n ∷ ns) (x ∷ xs) same = let is : n + 0 ≡ n = omega arith in ap (λ c. c ∷ zip_with (λ n x. n + 0) ns xs) is ∙ ap (λ cs. n ∷ cs) (count-end ns xs (omega (arith, same)))

  pub const : {V : Type 0} (v : V) (xs : List A) → replicate (length xs) v ≡ map (λ x. v) xs
  const v [] = refl
  const v (x ∷ xs) = ap (λ vs. v ∷ vs) (const v xs)

pub few-more : (n : ℕ) (ns : List ℕ) (bs : List Bool) → All (λ k. k ≤ n) ns → All (λ k. k ≤ n + 1) (zip_with (λ n b. if b then n + 1 else n) ns bs)
few-more n [] bs few k d lt = absurd (omega (arith, lt))
few-more n (m ∷ ns) [] few k d lt = absurd (omega (arith, lt))
few-more n (m ∷ ns) (true ∷ bs) few zero d lt = let small = few 0 m (omega arith) in omega (arith, small)
few-more n (m ∷ ns) (false ∷ bs) few zero d lt = let small = few 0 m (omega arith) in omega (arith, small)
few-more n (m ∷ ns) (b ∷ bs) few (suc k) d lt = few-more n ns bs (λ j e l. few (suc j) e (omega (arith, l))) k d (omega (arith, lt))
