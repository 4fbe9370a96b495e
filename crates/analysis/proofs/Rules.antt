-- The rules on words at spaces and at ASCII letters and digits.
use Rattle.std.proofs.Common.{◌≡◌, ◌≢◌, ℕ, ◌<◌, Bool, true, false, cond, not, ◌&&◌, ◌||◌, ◌==◌, List, [], ◌∷◌, ◌++◌, IsTrue, unwrap_or, refl, sym, subst, ap, ap₂, ◌∙◌, arith}
use Rattle.std.proofs.lemmas.Bool.{not-true, ne_eqb, ltb-true, and_parts}
use Rattle.std.proofs.lemmas.Bool.Decides.{nat_tests}
use Rattle.std.specs.Char.{is_ascii_alphanumeric}
use Rattle.ucd_table.proofs.Facts.{Stepped-below}
use Rattle.ucd_breaks.specs.WordBreak.{word_break}
use Rattle.ucd_breaks.specs.declared.WordBreak.{WordBreak}
use Rattle.ucd_breaks.specs.declared.WordBreak.TheVariants.{ALetter, Numeric, WSegSpace, Other, Extend, Format, Zwj, HebrewLetter, Katakana, ExtendNumLet, RegionalIndicator}
use Rattle.ucd_breaks.proofs.Computing.{ucd_breaks}
use Rattle.ucd_breaks.proofs.WordBreakLemmas.{word_break_stepped}
use Rattle.ucd_emoji.specs.Binary.{is_extended_pictographic}
use Rattle.ucd_emoji.proofs.Computing.{ucd_emoji}
use Rattle.analysis.specs.Delimiter.{is_delimiter}
use Rattle.unicode_segmentation.specs.Word.{break_by_pair, is_ignored, is_ah_letter, is_hebrew_letter, is_numeric, is_katakana, is_extend_num_let, is_regional, significant, starts_with_half_flag, joins, value_at, is_word_break}
use Rattle.unicode_segmentation.proofs.BoolLemmas.{and-false, or-false, or-true}
use Rattle.unicode_segmentation.proofs.WordLemmas.{significant-kept}

abbrev is_plain : WordBreak → Bool
is_plain ALetter = true
is_plain Numeric = true
is_plain _ = false

abbrev is_space : WordBreak → Bool
is_space WSegSpace = true
is_space _ = false

-- ---- the values of ASCII characters

pub ascii_from_plain : (c : ℕ) → IsTrue (is_ascii_alphanumeric c) → c < 128
ascii_from_plain c h = grind (arith, nat_tests)

space_value : word_break 32 ≡ WSegSpace
unfolding ucd_breaks
space_value = refl

space_no_picture : is_extended_pictographic 32 ≡ false
unfolding ucd_emoji
space_no_picture = refl

plain_value : (c : ℕ) → IsTrue (is_ascii_alphanumeric c) → is_plain (word_break c) ≡ true
unfolding ucd_breaks
plain_value c h =
    let test = Stepped-below word_break word_break_stepped (λ x v. not (is_ascii_alphanumeric x) || is_plain v) 128 refl c (ascii_from_plain c h) in
    rw h at test

ascii_kept : (c : ℕ) → c < 128 → not (is_ignored (word_break c)) ≡ true
unfolding ucd_breaks
ascii_kept = Stepped-below word_break word_break_stepped (λ _ v. not (is_ignored v)) 128 refl

ascii_apart : (c : ℕ) → c < 128 → ((c == 32) || not (is_space (word_break c))) ≡ true
unfolding ucd_breaks
ascii_apart = Stepped-below word_break word_break_stepped (λ x v. (x == 32) || not (is_space v)) 128 refl

not_space : (c : ℕ) → c < 128 → c ≢ 32 → is_space (word_break c) ≡ false
not_space c lt ne = not-true _ (rw (ne_eqb c 32 ne) at (ascii_apart c lt))

-- ---- what is left of the characters before a space

keep : (ignored : Bool) (v : WordBreak) (vs ws : List WordBreak) → cond ignored (vs ++ ws) (v ∷ (vs ++ ws)) ≡ cond ignored vs (v ∷ vs) ++ ws
keep true v vs ws = refl
keep false v vs ws = refl

significant-append : (xs ys : List ℕ) → significant (xs ++ ys) ≡ significant xs ++ significant ys
unfolding significant
significant-append [] ys = refl
significant-append (x ∷ xs) ys =
    ap (λ vs. cond (is_ignored (word_break x)) vs (word_break x ∷ vs)) (significant-append xs ys)
    ∙ keep (is_ignored (word_break x)) (word_break x) (significant xs) (significant ys)

significant-space : (ys : List ℕ) → significant (32 ∷ ys) ≡ WSegSpace ∷ significant ys
significant-space ys = significant-kept 32 ys (ap is_ignored space_value) ∙ ap (λ v. v ∷ significant ys) space_value

significant-at_space : (xs ys : List ℕ) → significant (xs ++ 32 ∷ ys) ≡ significant xs ++ WSegSpace ∷ significant ys
significant-at_space xs ys = significant-append xs (32 ∷ ys) ∙ ap (λ vs. significant xs ++ vs) (significant-space ys)

joins-behind_space : (far_left right far_right : WordBreak) → joins far_left WSegSpace right far_right ≡ false
joins-behind_space far_left right far_right = simp (and-false, or-false)

joins-behind_other : (far_left right far_right : WordBreak) → joins far_left Other right far_right ≡ false
joins-behind_other far_left right far_right = simp (and-false, or-false)

joins-at_space : (far_left left far_right : WordBreak) → joins far_left left WSegSpace far_right ≡ false
joins-at_space far_left left far_right = simp (and-false, or-false)

joins-unseen : (vs ws : List WordBreak) (right far_right : WordBreak)
    → joins (value_at (vs ++ WSegSpace ∷ ws) 1) (value_at (vs ++ WSegSpace ∷ ws) 0) right far_right ≡ joins (value_at vs 1) (value_at vs 0) right far_right
joins-unseen [] ws right far_right = joins-behind_space (value_at ws 0) right far_right ∙ sym (joins-behind_other Other right far_right)
joins-unseen (v ∷ []) ws right far_right = refl
joins-unseen (v ∷ (w ∷ vs)) ws right far_right = refl

joins-unseen_ahead : (vs ws : List WordBreak) (far_left left right : WordBreak)
    → joins far_left left right (value_at (vs ++ WSegSpace ∷ ws) 0) ≡ joins far_left left right (value_at vs 0)
joins-unseen_ahead [] ws far_left left right = refl
joins-unseen_ahead (v ∷ vs) ws far_left left right = refl

half_flag-unseen : (vs ws : List WordBreak) → starts_with_half_flag (vs ++ WSegSpace ∷ ws) ≡ starts_with_half_flag vs
unfolding starts_with_half_flag
half_flag-unseen [] ws = refl
half_flag-unseen (v ∷ vs) ws = ap (λ half. is_regional v && not half) (half_flag-unseen vs ws)

-- ---- the rule does not see past a space

pub unseen_before : (x : ℕ) (xs ys after : List ℕ) → is_word_break (x ∷ (xs ++ 32 ∷ ys)) after ≡ is_word_break (x ∷ xs) after
unfolding is_word_break
unseen_before x xs ys [] = refl
unseen_before x xs ys (next ∷ after) =
    let left = significant-at_space (x ∷ xs) ys in
    let vs = significant (x ∷ xs) in
    let far_right = value_at (significant after) 0 in
    let right = word_break next in
    ap₂ (λ joined half. unwrap_or (break_by_pair (word_break x) right (is_extended_pictographic next)) (not (joined || (half && is_regional right))))
    (ap (λ us. joins (value_at us 1) (value_at us 0) right far_right) left ∙ joins-unseen vs (significant ys) right far_right)
    (ap starts_with_half_flag left ∙ half_flag-unseen vs (significant ys))

pub unseen_after : (before : List ℕ) (y : ℕ) (ys after : List ℕ) → is_word_break before (y ∷ (ys ++ 32 ∷ after)) ≡ is_word_break before (y ∷ ys)
unfolding is_word_break
unseen_after [] y ys after = refl
unseen_after (x ∷ before) y ys after =
    let vs = significant (x ∷ before) in
    let right = word_break y in
    ap (λ joined. unwrap_or (break_by_pair (word_break x) right (is_extended_pictographic y)) (not (joined || (starts_with_half_flag vs && is_regional right))))
    (ap (λ us. joins (value_at vs 1) (value_at vs 0) right (value_at us 0)) (significant-at_space ys after)
    ∙ joins-unseen_ahead (significant ys) (significant after) (value_at vs 1) (value_at vs 0) right)

behind_space : (before : List ℕ) (next : ℕ) (after : List ℕ)
    → is_word_break (32 ∷ before) (next ∷ after) ≡ unwrap_or (break_by_pair WSegSpace (word_break next) (is_extended_pictographic next)) true
unfolding is_word_break starts_with_half_flag
behind_space before next after =
    let left = significant-space before in
    let far_right = value_at (significant after) 0 in
    let right = word_break next in
    ap₂ (λ v us. unwrap_or (break_by_pair v right (is_extended_pictographic next)) (not (joins (value_at us 1) (value_at us 0) right far_right || (starts_with_half_flag us && is_regional right))))
    space_value left
    ∙ ap (λ joined. unwrap_or (break_by_pair WSegSpace right (is_extended_pictographic next)) (not (joined || false)))
    (joins-behind_space (value_at (significant before) 0) right far_right)

pub unseen_behind_space : (before other after : List ℕ) → is_word_break (32 ∷ before) after ≡ is_word_break (32 ∷ other) after
unfolding is_word_break
unseen_behind_space before other [] = refl
unseen_behind_space before other (next ∷ after) = behind_space before next after ∙ sym (behind_space other next after)

-- ---- the breaks at spaces

break_by_pair-from_space : (v : WordBreak) (e : Bool) → is_space v ≡ false → is_ignored v ≡ false → unwrap_or (break_by_pair WSegSpace v e) true ≡ true
break_by_pair-from_space WSegSpace e h k = cc
break_by_pair-from_space Extend e h k = cc
break_by_pair-from_space Format e h k = cc
break_by_pair-from_space Zwj e h k = cc
break_by_pair-from_space _ e h k = refl

pub break_from_space : (before : List ℕ) (c : ℕ) (after : List ℕ) → c < 128 → c ≢ 32 → is_word_break (32 ∷ before) (c ∷ after) ≡ true
break_from_space before c after lt ne =
    behind_space before c after ∙ break_by_pair-from_space (word_break c) (is_extended_pictographic c) (not_space c lt ne) (not-true _ (ascii_kept c lt))

pub joined_spaces : (before after : List ℕ) → is_word_break (32 ∷ before) (32 ∷ after) ≡ false
joined_spaces before after = behind_space before 32 after ∙ ap (λ v. unwrap_or (break_by_pair WSegSpace v (is_extended_pictographic 32)) true) space_value

break_by_pair-to_space : (v : WordBreak) → is_space v ≡ false → unwrap_or (break_by_pair v WSegSpace false) true ≡ true
break_by_pair-to_space WSegSpace h = cc
break_by_pair-to_space _ h = refl

pub break_to_space : (c : ℕ) (before after : List ℕ) → c < 128 → c ≢ 32 → is_word_break (c ∷ before) (32 ∷ after) ≡ true
unfolding is_word_break
break_to_space c before after lt ne =
    let left = significant (c ∷ before) in
    let far_left = value_at left 1 in
    let near = value_at left 0 in
    let far_right = value_at (significant after) 0 in
    ap₂ (λ v e. unwrap_or (break_by_pair (word_break c) v e) (not (joins far_left near v far_right || (starts_with_half_flag left && is_regional v))))
    space_value space_no_picture
    ∙ ap₂ (λ joined half. unwrap_or (break_by_pair (word_break c) WSegSpace false) (not (joined || half)))
    (joins-at_space far_left near far_right) (and-false (starts_with_half_flag left))
    ∙ break_by_pair-to_space (word_break c) (not_space c lt ne)

-- ---- letters and digits

plain_join : (v w : WordBreak) → is_plain v ≡ true → is_plain w ≡ true → (far_left far_right : WordBreak) (e half : Bool)
    → unwrap_or (break_by_pair v w e) (not (joins far_left v w far_right || half)) ≡ false
plain_join ALetter ALetter h k far_left far_right e half = refl
plain_join ALetter Numeric h k far_left far_right e half = simp and-false
plain_join Numeric ALetter h k far_left far_right e half = simp and-false
plain_join Numeric Numeric h k far_left far_right e half = simp and-false
plain_join ALetter _ h k far_left far_right e half = cc
plain_join Numeric _ h k far_left far_right e half = cc
plain_join _ _ h k far_left far_right e half = cc

pub joined_plain : (c d : ℕ) (before after : List ℕ) → IsTrue (is_ascii_alphanumeric c) → IsTrue (is_ascii_alphanumeric d) → is_word_break (c ∷ before) (d ∷ after) ≡ false
unfolding is_word_break
joined_plain c d before after h k =
    let kept = significant-kept c before (not-true _ (ascii_kept c (ascii_from_plain c h))) in
    let far_right = value_at (significant after) 0 in
    let half = starts_with_half_flag (significant (c ∷ before)) && is_regional (word_break d) in
    ap (λ us. unwrap_or (break_by_pair (word_break c) (word_break d) (is_extended_pictographic d)) (not (joins (value_at us 1) (value_at us 0) (word_break d) far_right || half))) kept
    ∙ plain_join (word_break c) (word_break d) (plain_value c h) (plain_value d k) (value_at (significant before) 0) far_right (is_extended_pictographic d) half

-- ---- what parts words

-- no rule joins a character of the value to a letter or a digit, but by what stands on its other side
record Parting (v : WordBreak) : Type 0 where
  letter : is_ah_letter v ≡ false
  hebrew : is_hebrew_letter v ≡ false
  number : is_numeric v ≡ false
  katakana : is_katakana v ≡ false
  joiner : is_extend_num_let v ≡ false
  regional : is_regional v ≡ false

abbrev is_parting : WordBreak → Bool
is_parting v = not (is_ah_letter v || is_numeric v || is_katakana v || is_extend_num_let v || is_regional v)

parting_by_value : (v : WordBreak) → is_parting v ≡ true → Parting v
parting_by_value ALetter h = cc
parting_by_value HebrewLetter h = cc
parting_by_value Numeric h = cc
parting_by_value Katakana h = cc
parting_by_value ExtendNumLet h = cc
parting_by_value RegionalIndicator h = cc
parting_by_value _ h = record { letter = refl; hebrew = refl; number = refl; katakana = refl; joiner = refl; regional = refl }

pub ascii_from_delimiter : (c : ℕ) → IsTrue (is_delimiter c) → c < 128
ascii_from_delimiter c h = ltb-true c 128 (and_parts _ _ (and_parts _ _ (and_parts _ _ h).0).0).0

pub delimiter_not_plain : (c : ℕ) → IsTrue (is_delimiter c) → is_ascii_alphanumeric c ≡ false
delimiter_not_plain c h = not-true _ (and_parts _ _ (and_parts _ _ (and_parts _ _ h).0).0).1

delimiter_value : (c : ℕ) → IsTrue (is_delimiter c) → Parting (word_break c)
unfolding ucd_breaks
delimiter_value c h =
    let test = Stepped-below word_break word_break_stepped (λ x v. not (is_delimiter x) || is_parting v) 128 refl c (ascii_from_delimiter c h) in
    parting_by_value (word_break c) (rw h at test)

abbrev pub AllDelimiters : List ℕ → Type 0
AllDelimiters [] = Unit {0}
AllDelimiters (c ∷ cs) = IsTrue (is_delimiter c) × AllDelimiters cs

first_value : (cs : List ℕ) → AllDelimiters cs → Parting (value_at (significant cs) 0)
unfolding significant
first_value [] h = record { letter = refl; hebrew = refl; number = refl; katakana = refl; joiner = refl; regional = refl }
first_value (c ∷ cs) h =
    subst (λ vs. Parting (value_at vs 0)) (sym (significant-kept c cs (not-true _ (ascii_kept c (ascii_from_delimiter c h.0))))) (delimiter_value c h.0)

joins-to_parting : (far_left left right far_right : WordBreak) → is_hebrew_letter left ≡ false → Parting right → Parting far_right → joins far_left left right far_right ≡ false
joins-to_parting far_left left right far_right h p q =
    let a = p.letter in let b = p.hebrew in let d = p.number in let e = p.katakana in let f = p.joiner in
    let i = q.letter in let j = q.hebrew in let k = q.number in
    simp (a, b, d, e, f, i, j, k, h, and-false, or-false)

joins-from_parting : (far_left left right far_right : WordBreak) → Parting far_left → Parting left → joins far_left left right far_right ≡ false
joins-from_parting far_left left right far_right p q =
    let a = p.letter in let b = p.hebrew in let d = p.number in
    let i = q.letter in let j = q.hebrew in let k = q.number in let l = q.katakana in let m = q.joiner in
    simp (a, b, d, i, j, k, l, m, or-false)

plain_no_hebrew : (v : WordBreak) → is_plain v ≡ true → is_hebrew_letter v ≡ false
plain_no_hebrew HebrewLetter h = cc
plain_no_hebrew _ h = refl

plain_no_regional : (v : WordBreak) → is_plain v ≡ true → is_regional v ≡ false
plain_no_regional RegionalIndicator h = cc
plain_no_regional _ h = refl

break_by_pair-from_plain : (v w : WordBreak) (e : Bool) → is_plain v ≡ true → is_ignored w ≡ false → unwrap_or (break_by_pair v w e) true ≡ true
break_by_pair-from_plain ALetter Extend e h k = cc
break_by_pair-from_plain ALetter Format e h k = cc
break_by_pair-from_plain ALetter Zwj e h k = cc
break_by_pair-from_plain ALetter _ e h k = refl
break_by_pair-from_plain Numeric Extend e h k = cc
break_by_pair-from_plain Numeric Format e h k = cc
break_by_pair-from_plain Numeric Zwj e h k = cc
break_by_pair-from_plain Numeric _ e h k = refl
break_by_pair-from_plain _ _ e h k = cc

break_by_pair-to_plain : (v w : WordBreak) (e : Bool) → is_ignored v ≡ false → is_plain w ≡ true → unwrap_or (break_by_pair v w e) true ≡ true
break_by_pair-to_plain Zwj w e h k = cc
break_by_pair-to_plain _ ALetter e h k = refl
break_by_pair-to_plain _ Numeric e h k = refl
break_by_pair-to_plain _ _ e h k = cc

pub break_to_delimiter : (c d : ℕ) (before after : List ℕ) → IsTrue (is_ascii_alphanumeric c) → IsTrue (is_delimiter d) → AllDelimiters after
    → is_word_break (c ∷ before) (d ∷ after) ≡ true
unfolding is_word_break
break_to_delimiter c d before after h k all =
    let v = word_break c in
    let w = word_break d in
    let e = is_extended_pictographic d in
    let kept = significant-kept c before (not-true _ (ascii_kept c (ascii_from_plain c h))) in
    let far_left = value_at (significant before) 0 in
    let far_right = value_at (significant after) 0 in
    let half = starts_with_half_flag (significant (c ∷ before)) in
    ap (λ us. unwrap_or (break_by_pair v w e) (not (joins (value_at us 1) (value_at us 0) w far_right || (half && is_regional w)))) kept
    ∙ ap₂ (λ joined flag. unwrap_or (break_by_pair v w e) (not (joined || flag)))
    (joins-to_parting far_left v w far_right (plain_no_hebrew v (plain_value c h)) (delimiter_value d k) (first_value after all))
    (ap (λ b. half && b) (delimiter_value d k).regional ∙ and-false half)
    ∙ break_by_pair-from_plain v w e (plain_value c h) (not-true _ (ascii_kept d (ascii_from_delimiter d k)))

pub break_from_delimiter : (d c : ℕ) (before after : List ℕ) → IsTrue (is_delimiter d) → AllDelimiters before → IsTrue (is_ascii_alphanumeric c)
    → is_word_break (d ∷ before) (c ∷ after) ≡ true
unfolding is_word_break
break_from_delimiter d c before after k all h =
    let v = word_break d in
    let w = word_break c in
    let e = is_extended_pictographic c in
    let ignored = not-true _ (ascii_kept d (ascii_from_delimiter d k)) in
    let far_right = value_at (significant after) 0 in
    let half = starts_with_half_flag (significant (d ∷ before)) in
    ap (λ us. unwrap_or (break_by_pair v w e) (not (joins (value_at us 1) (value_at us 0) w far_right || (half && is_regional w)))) (significant-kept d before ignored)
    ∙ ap₂ (λ joined flag. unwrap_or (break_by_pair v w e) (not (joined || flag)))
    (joins-from_parting (value_at (significant before) 0) v w far_right (first_value before all) (delimiter_value d k))
    (ap (λ b. half && b) (plain_no_regional w (plain_value c h)) ∙ and-false half)
    ∙ break_by_pair-to_plain v w e ignored (plain_value c h)
