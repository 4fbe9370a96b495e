-- The words of a text that is taken apart at spaces.
use Rattle.std.proofs.Common.{◌≡◌, ◌≢◌, ℕ, zero, suc, ◌<◌, Bool, true, false, cond, ◌||◌, List, [], ◌∷◌, ◌++◌, map, filter, length, slice_index, IsTrue, refl, sym, ap, ap₂, subst, ◌∙◌, arith, append_assoc, append-nil}
use Rattle.std.proofs.lemmas.List.{map-append}
use Rattle.std.proofs.lemmas.List.Elements.{filter-append}
use Rattle.std.proofs.lemmas.Str.{chars-nil, chars-append, chars-IsAscii, encodes-IsAscii, IsAscii-append, IsUtf8-append, IsUtf8-from_ascii}
use Rattle.std.proofs.lemmas.Str.Ascii.{IsAscii-nil, IsAscii-cons}
use Rattle.std.specs.Char.{is_ascii_alphanumeric}
use Rattle.std.specs.List.{list_any}
use Rattle.std.specs.Prelude.{encode_utf8_all}
use Rattle.std.specs.Str.{chars, IsUtf8, IsAscii}
use Rattle.unicode_segmentation.specs.Segments.{is_alphanumeric, prepend, cut, segments, has_alphanumeric}
use Rattle.unicode_segmentation.specs.Word.{is_word_break, words}
use Rattle.unicode_segmentation.proofs.AsciiLemmas.{is_alphanumeric_ascii}
use Rattle.unicode_segmentation.proofs.SegmentsLemmas.{attach}
use Rattle.analysis.specs.Delimiter.{is_delimiter}
use Rattle.analysis.proofs.Rules.{AllDelimiters, ascii_from_plain, ascii_from_delimiter, delimiter_not_plain, break_to_delimiter, break_from_delimiter, unseen_before, unseen_after, unseen_behind_space, break_from_space, joined_spaces, break_to_space, joined_plain}

-- ---- pieces

abbrev cut_words : List ℕ → List ℕ → List (List ℕ)
cut_words before cs = cut is_word_break before cs []

attach-nil : (b : Bool) (part : List ℕ) → attach b part [] ≡ part ∷ []
attach-nil true part = refl
attach-nil false part = refl

attach-some : (b : Bool) (part : List ℕ) (pieces : List (List ℕ)) → (q : List ℕ) × (qs : List (List ℕ)) × (attach b part pieces ≡ q ∷ qs)
attach-some true part pieces = (part, pieces, refl)
attach-some false part [] = (part, [], refl)
attach-some false part (p ∷ pieces) = (part ++ p, pieces, refl)

attach-append : (b : Bool) (part : List ℕ) (pieces others : List (List ℕ)) → (q : List ℕ) (qs : List (List ℕ)) → pieces ≡ q ∷ qs
    → attach b part (pieces ++ others) ≡ attach b part pieces ++ others
attach-append b part pieces others q qs e =
    ap (λ ps. attach b part (ps ++ others)) e ∙ some b ∙ ap (λ ps. attach b part ps ++ others) (sym e)
  where
    some : (b : Bool) → attach b part ((q ∷ qs) ++ others) ≡ attach b part (q ∷ qs) ++ others
    some true = refl
    some false = refl

cut-one : (before : List ℕ) (c : ℕ) → cut_words before (c ∷ []) ≡ (c ∷ []) ∷ []
unfolding cut
cut-one before c = attach-nil (is_word_break (c ∷ before) []) (c ∷ [])

cut-some : (before cs : List ℕ) (c : ℕ) → (q : List ℕ) × (qs : List (List ℕ)) × (cut_words before (cs ++ c ∷ []) ≡ q ∷ qs)
unfolding cut
cut-some before [] c = attach-some (is_word_break (c ∷ before) []) (c ∷ []) []
cut-some before (x ∷ cs) c = attach-some (is_word_break (x ∷ before) ((cs ++ c ∷ []) ++ [])) (x ∷ []) (cut_words (x ∷ before) (cs ++ c ∷ []))

-- ---- what stands before a space does not matter behind it

cut-unseen : (x : ℕ) (xs before cs : List ℕ) → cut_words (x ∷ (xs ++ 32 ∷ before)) cs ≡ cut_words (x ∷ xs) cs
unfolding cut
cut-unseen x xs before [] = refl
cut-unseen x xs before (c ∷ cs) =
    ap₂ (λ b ps. attach b (c ∷ []) ps) (unseen_before c (x ∷ xs) before (cs ++ [])) (cut-unseen c (x ∷ xs) before cs)

cut-behind_space : (before cs : List ℕ) → cut_words (32 ∷ before) cs ≡ cut_words [] cs
unfolding cut
cut-behind_space before [] = refl
cut-behind_space before (c ∷ cs) =
    ap₂ (λ b ps. attach b (c ∷ []) ps) (unseen_before c [] before (cs ++ [])) (cut-unseen c [] before cs)

cut-from_space : (before cs : List ℕ) → cut_words before (32 ∷ cs) ≡ cut_words [] (32 ∷ cs)
unfolding cut
cut-from_space before cs =
    ap₂ (λ b ps. attach b (32 ∷ []) ps) (unseen_behind_space before [] (cs ++ [])) (cut-behind_space before cs ∙ sym (cut-behind_space [] cs))

-- ---- apart at a space behind an ASCII character that is none

unseen_past : (before cs after : List ℕ) (c : ℕ) → is_word_break before (((cs ++ c ∷ []) ++ 32 ∷ after) ++ []) ≡ is_word_break before ((cs ++ c ∷ []) ++ [])
unseen_past before cs after c =
    ap (is_word_break before) (append-nil _) ∙ past cs ∙ ap (is_word_break before) (sym (append-nil _))
  where
    past : (cs : List ℕ) → is_word_break before ((cs ++ c ∷ []) ++ 32 ∷ after) ≡ is_word_break before (cs ++ c ∷ [])
    past [] = unseen_after before c [] after
    past (x ∷ cs) = unseen_after before x (cs ++ c ∷ []) after

cut-apart : (before cs after : List ℕ) (c : ℕ) → c < 128 → c ≢ 32
    → cut_words before ((cs ++ c ∷ []) ++ 32 ∷ after) ≡ cut_words before (cs ++ c ∷ []) ++ cut_words [] (32 ∷ after)
unfolding cut
cut-apart before [] after c lt ne =
    ap₂ (λ b ps. attach b (c ∷ []) ps) (break_to_space c before (after ++ []) lt ne) (cut-from_space (c ∷ before) after)
    ∙ ap (λ ps. ps ++ cut_words [] (32 ∷ after)) (sym (cut-one before c))
cut-apart before (x ∷ cs) after c lt ne =
    let some = cut-some (x ∷ before) cs c in
    ap₂ (λ b ps. attach b (x ∷ []) ps) (unseen_past (x ∷ before) cs after c) (cut-apart (x ∷ before) cs after c lt ne)
    ∙ attach-append (is_word_break (x ∷ before) ((cs ++ c ∷ []) ++ [])) (x ∷ []) (cut_words (x ∷ before) (cs ++ c ∷ [])) (cut_words [] (32 ∷ after)) some.0 some.1 some.2

IsAscii-one : (c : ℕ) → c < 128 → IsAscii (c ∷ [])
IsAscii-one c lt = IsAscii-cons c [] lt IsAscii-nil

chars-cons : (c : ℕ) (bs : List ℕ) → c < 128 → chars (c ∷ bs) ≡ c ∷ chars bs
chars-cons c bs lt =
    let one = IsAscii-one c lt in
    chars-append (c ∷ []) bs (IsUtf8-from_ascii (c ∷ []) one) ∙ ap (λ cs. cs ++ chars bs) (chars-IsAscii (c ∷ []) one)

chars-push : (bs : List ℕ) (c : ℕ) → IsUtf8 bs → c < 128 → chars (bs ++ c ∷ []) ≡ chars bs ++ c ∷ []
chars-push bs c u lt = chars-append bs (c ∷ []) u ∙ ap (λ cs. chars bs ++ cs) (chars-IsAscii (c ∷ []) (IsAscii-one c lt))

words-from_pieces : (bs : List ℕ) (ps qs : List (List ℕ)) → cut_words [] (chars bs) ≡ ps ++ qs
    → words bs ≡ filter has_alphanumeric (map encode_utf8_all ps) ++ filter has_alphanumeric (map encode_utf8_all qs)
unfolding segments
words-from_pieces bs ps qs e =
    ap (λ t. filter has_alphanumeric (map encode_utf8_all t)) e ∙ ap (filter has_alphanumeric) (map-append encode_utf8_all ps qs)
    ∙ filter-append has_alphanumeric (map encode_utf8_all ps) (map encode_utf8_all qs)

-- the words of both parts
pub words-apart : (front rest : List ℕ) (c : ℕ) → IsUtf8 front → c < 128 → c ≢ 32
    → words ((front ++ c ∷ []) ++ 32 ∷ rest) ≡ words (front ++ c ∷ []) ++ words (32 ∷ rest)
unfolding segments
words-apart front rest c u lt ne =
    let fits : 32 < 128 = omega arith in
    let text = chars-append (front ++ c ∷ []) (32 ∷ rest) (IsUtf8-append front (c ∷ []) u (IsUtf8-from_ascii (c ∷ []) (IsAscii-one c lt)))
    ∙ ap₂ ◌++◌ (chars-push front c u lt) (chars-cons 32 rest fits) in
    words-from_pieces ((front ++ c ∷ []) ++ 32 ∷ rest) (cut_words [] (chars front ++ c ∷ [])) (cut_words [] (32 ∷ chars rest))
    (ap (cut_words []) text ∙ cut-apart [] (chars front) (chars rest) c lt ne)
    ∙ ap₂ (λ cs ds. filter has_alphanumeric (map encode_utf8_all (cut_words [] cs)) ++ filter has_alphanumeric (map encode_utf8_all (cut_words [] ds)))
    (sym (chars-push front c u lt)) (sym (chars-cons 32 rest fits))

-- ---- spaces at the start

abbrev pub spaces : ℕ → List ℕ
spaces zero = []
spaces (suc n) = 32 ∷ spaces n

IsAscii-spaces : (n : ℕ) → IsAscii (spaces n)
IsAscii-spaces zero = IsAscii-nil
IsAscii-spaces (suc n) = IsAscii-cons 32 (spaces n) (omega arith) (IsAscii-spaces n)

cut-spaces : (n : ℕ) (before : List ℕ) → cut_words before (spaces (suc n)) ≡ spaces (suc n) ∷ []
unfolding cut
cut-spaces zero before = cut-one before 32
cut-spaces (suc n) before =
    ap₂ (λ b ps. attach b (32 ∷ []) ps) (joined_spaces before (spaces n ++ [])) (cut-spaces n (32 ∷ before))

cut-past_spaces : (n c : ℕ) (before cs : List ℕ) → c < 128 → c ≢ 32
    → cut_words before (spaces (suc n) ++ c ∷ cs) ≡ spaces (suc n) ∷ cut_words [] (c ∷ cs)
unfolding cut
cut-past_spaces zero c before cs lt ne =
    ap₂ (λ b ps. attach b (32 ∷ []) ps) (break_from_space before c (cs ++ []) lt ne) (cut-behind_space before (c ∷ cs))
cut-past_spaces (suc n) c before cs lt ne =
    ap₂ (λ b ps. attach b (32 ∷ []) ps) (joined_spaces before ((spaces n ++ c ∷ cs) ++ [])) (cut-past_spaces n c (32 ∷ before) cs lt ne)

no_alphanumeric : (n : ℕ) → list_any is_alphanumeric (spaces n) ≡ false
no_alphanumeric zero = refl
no_alphanumeric (suc n) = ap₂ ◌||◌ (sym (is_alphanumeric_ascii 32 (omega arith))) (no_alphanumeric n)

spaces_no_word : (n : ℕ) → filter has_alphanumeric (map encode_utf8_all (spaces n ∷ [])) ≡ []
unfolding has_alphanumeric
spaces_no_word n =
    let ascii = IsAscii-spaces n in
    ap (λ t. filter has_alphanumeric (t ∷ [])) (encodes-IsAscii (spaces n) ascii)
    ∙ ap (λ b. cond b (spaces n ∷ []) []) (ap (list_any is_alphanumeric) (chars-IsAscii (spaces n) ascii) ∙ no_alphanumeric n)

chars-spaces : (n : ℕ) (bs : List ℕ) → chars (spaces n ++ bs) ≡ spaces n ++ chars bs
chars-spaces n bs =
    let ascii = IsAscii-spaces n in
    chars-append (spaces n) bs (IsUtf8-from_ascii (spaces n) ascii) ∙ ap (λ cs. cs ++ chars bs) (chars-IsAscii (spaces n) ascii)

pub words-nil : words [] ≡ []
unfolding segments cut
words-nil = ap (λ cs. filter has_alphanumeric (map encode_utf8_all (cut_words [] cs))) chars-nil

-- spaces have no words
pub words-spaces : (n : ℕ) → words (spaces n) ≡ []
words-spaces zero = words-nil
words-spaces (suc n) =
    words-from_pieces (spaces (suc n)) (spaces (suc n) ∷ []) []
    (ap (cut_words []) (chars-IsAscii (spaces (suc n)) (IsAscii-spaces (suc n))) ∙ cut-spaces n [])
    ∙ append-nil _ ∙ spaces_no_word (suc n)

-- and before an ASCII character that is none they may be left out
pub words-past_spaces : (n c : ℕ) (rest : List ℕ) → c < 128 → c ≢ 32 → words (spaces n ++ c ∷ rest) ≡ words (c ∷ rest)
unfolding segments
words-past_spaces zero c rest lt ne = refl
words-past_spaces (suc n) c rest lt ne =
    words-from_pieces (spaces (suc n) ++ c ∷ rest) (spaces (suc n) ∷ []) (cut_words [] (c ∷ chars rest))
    (ap (cut_words []) (chars-spaces (suc n) (c ∷ rest) ∙ ap (λ cs. spaces (suc n) ++ cs) (chars-cons c rest lt)) ∙ cut-past_spaces n c [] (chars rest) lt ne)
    ∙ ap₂ (λ ps cs. ps ++ filter has_alphanumeric (map encode_utf8_all (cut_words [] cs))) (spaces_no_word (suc n)) (sym (chars-cons c rest lt))

-- ---- letters and digits

abbrev pub AllPlain : List ℕ → Type 0
AllPlain [] = Unit {0}
AllPlain (c ∷ cs) = IsTrue (is_ascii_alphanumeric c) × AllPlain cs

IsAscii-plain : (cs : List ℕ) → AllPlain cs → IsAscii cs
IsAscii-plain [] h = IsAscii-nil
IsAscii-plain (c ∷ cs) h = IsAscii-cons c cs (ascii_from_plain c h.0) (IsAscii-plain cs h.1)

cut-plain : (before : List ℕ) (c : ℕ) (cs : List ℕ) → AllPlain (c ∷ cs) → cut_words before (c ∷ cs) ≡ (c ∷ cs) ∷ []
unfolding cut
cut-plain before c [] h = cut-one before c
cut-plain before c (d ∷ cs) h =
    ap₂ (λ b ps. attach b (c ∷ []) ps) (joined_plain c d before (cs ++ []) h.0 h.1.0) (cut-plain (c ∷ before) d cs h.1)

-- ---- delimiters

abbrev AllPieces : (List ℕ → Type 0) → List (List ℕ) → Type 0
AllPieces P [] = Unit {0}
AllPieces P (p ∷ ps) = P p × AllPieces P ps

IsAscii-delimiters : (cs : List ℕ) → AllDelimiters cs → IsAscii cs
IsAscii-delimiters [] h = IsAscii-nil
IsAscii-delimiters (c ∷ cs) h = IsAscii-cons c cs (ascii_from_delimiter c h.0) (IsAscii-delimiters cs h.1)

delimiters_no_alphanumeric : (cs : List ℕ) → AllDelimiters cs → list_any is_alphanumeric cs ≡ false
delimiters_no_alphanumeric [] h = refl
delimiters_no_alphanumeric (c ∷ cs) h =
    ap₂ ◌||◌ (sym (is_alphanumeric_ascii c (ascii_from_delimiter c h.0)) ∙ delimiter_not_plain c h.0) (delimiters_no_alphanumeric cs h.1)

delimiters_no_words : (ps : List (List ℕ)) → AllPieces AllDelimiters ps → filter has_alphanumeric (map encode_utf8_all ps) ≡ []
unfolding has_alphanumeric
delimiters_no_words [] h = refl
delimiters_no_words (p ∷ ps) h =
    let ascii = IsAscii-delimiters p h.0 in
    let rest = filter has_alphanumeric (map encode_utf8_all ps) in
    ap (λ t. cond (has_alphanumeric t) (t ∷ rest) rest) (encodes-IsAscii p ascii)
    ∙ ap (λ b. cond b (p ∷ rest) rest) (ap (list_any is_alphanumeric) (chars-IsAscii p ascii) ∙ delimiters_no_alphanumeric p h.0)
    ∙ delimiters_no_words ps h.1

attach-delimiter : (b : Bool) (c : ℕ) (ps : List (List ℕ)) → IsTrue (is_delimiter c) → AllPieces AllDelimiters ps → AllPieces AllDelimiters (attach b (c ∷ []) ps)
attach-delimiter true c ps k h = ((k, tt), h)
attach-delimiter false c [] k h = ((k, tt), tt)
attach-delimiter false c (p ∷ ps) k h = ((k, h.0), h.1)

cut-delimiters : (before cs : List ℕ) → AllDelimiters cs → AllPieces AllDelimiters (cut_words before cs)
unfolding cut
cut-delimiters before [] h = tt
cut-delimiters before (c ∷ cs) h =
    attach-delimiter (is_word_break (c ∷ before) (cs ++ [])) c (cut_words (c ∷ before) cs) h.0 (cut-delimiters (c ∷ before) cs h.1)

-- the pieces of a text are some of delimiters, and then those of what stands behind other characters
record Passed (before cs rest : List ℕ) : Type 0 where
  first : List ℕ
  others : List (List ℕ)
  left : List ℕ
  delimiters : AllPieces AllDelimiters (first ∷ others)
  pieces : cut_words before cs ≡ (first ∷ others) ++ cut_words left rest

cut-past_delimiters : (before : List ℕ) (d : ℕ) (ds : List ℕ) (c : ℕ) (cs : List ℕ) → AllDelimiters before → AllDelimiters (d ∷ ds) → IsTrue (is_ascii_alphanumeric c)
    → Passed before ((d ∷ ds) ++ c ∷ cs) (c ∷ cs)
unfolding cut
cut-past_delimiters before d [] c cs all h k =
    record {
      first = d ∷ [];
      others = [];
      left = d ∷ before;
      delimiters = (h, tt);
      pieces = ap (λ b. attach b (d ∷ []) (cut_words (d ∷ before) (c ∷ cs))) (break_from_delimiter d c before (cs ++ []) h.0 all k);
    }
cut-past_delimiters before d (e ∷ ds) c cs all h k =
    let p = cut-past_delimiters (d ∷ before) e ds c cs (h.0, all) h.1 k in
    let b = is_word_break (d ∷ before) (((e ∷ ds) ++ c ∷ cs) ++ []) in
    let some = attach-some b (d ∷ []) (p.first ∷ p.others) in
    record {
      first = some.0;
      others = some.1;
      left = p.left;
      delimiters = subst (AllPieces AllDelimiters) some.2 (attach-delimiter b d (p.first ∷ p.others) h.0 p.delimiters);
      pieces = ap (attach b (d ∷ [])) p.pieces ∙ attach-append b (d ∷ []) (p.first ∷ p.others) (cut_words p.left (c ∷ cs)) p.first p.others refl
          ∙ ap (λ ps. ps ++ cut_words p.left (c ∷ cs)) some.2;
    }

cut-word : (before : List ℕ) (c : ℕ) (cs ds : List ℕ) → AllPlain (c ∷ cs) → AllDelimiters ds
    → (left : List ℕ) × (cut_words before ((c ∷ cs) ++ ds) ≡ (c ∷ cs) ∷ cut_words left ds)
unfolding cut
cut-word before c [] [] h k = (c ∷ before, cut-one before c)
cut-word before c [] (d ∷ ds) h k =
    (c ∷ before, ap (λ b. attach b (c ∷ []) (cut_words (c ∷ before) (d ∷ ds))) (break_to_delimiter c d before (ds ++ []) h.0 k.0 (delimiters-nil ds k.1)))
  where
    delimiters-nil : (ds : List ℕ) → AllDelimiters ds → AllDelimiters (ds ++ [])
    delimiters-nil ds h = subst AllDelimiters (sym (append-nil ds)) h
cut-word before c (d ∷ cs) ds h k =
    let p = cut-word (c ∷ before) d cs ds h.1 k in
    (p.0, ap₂ (λ b ps. attach b (c ∷ []) ps) (joined_plain c d before ((cs ++ ds) ++ []) h.0 h.1.0) p.1)

-- the only word
abbrev HasOneWord : List ℕ → List (List ℕ) → Type 0
HasOneWord word pieces = filter has_alphanumeric (map encode_utf8_all pieces) ≡ word ∷ []

has_plain : (c : ℕ) (cs : List ℕ) → AllPlain (c ∷ cs) → has_alphanumeric (c ∷ cs) ≡ true
unfolding has_alphanumeric
has_plain c cs h =
    let letter : is_alphanumeric c ≡ true = sym (is_alphanumeric_ascii c (ascii_from_plain c h.0)) ∙ h.0 in
    ap (list_any is_alphanumeric) (chars-IsAscii (c ∷ cs) (IsAscii-plain (c ∷ cs) h)) ∙ ap (λ b. b || list_any is_alphanumeric cs) letter

one_word : (before : List ℕ) (c : ℕ) (cs ds : List ℕ) → AllPlain (c ∷ cs) → AllDelimiters ds → HasOneWord (c ∷ cs) (cut_words before ((c ∷ cs) ++ ds))
one_word before c cs ds h k =
    let p = cut-word before c cs ds h k in
    ap (λ ps. filter has_alphanumeric (map encode_utf8_all ps)) p.1
    ∙ ap₂ (λ t rest. cond (has_alphanumeric t) (t ∷ rest) rest) (encodes-IsAscii (c ∷ cs) (IsAscii-plain (c ∷ cs) h))
    (delimiters_no_words (cut_words p.0 ds) (cut-delimiters p.0 ds k))
    ∙ ap (λ b. cond b ((c ∷ cs) ∷ []) []) (has_plain c cs h)

one_word_past : (front : List ℕ) (c : ℕ) (cs ds : List ℕ) → AllDelimiters front → AllPlain (c ∷ cs) → AllDelimiters ds
    → HasOneWord (c ∷ cs) (cut_words [] (front ++ ((c ∷ cs) ++ ds)))
one_word_past [] c cs ds all h k = one_word [] c cs ds h k
one_word_past (d ∷ front) c cs ds all h k =
    let p = cut-past_delimiters [] d front c (cs ++ ds) tt all h.0 in
    ap (λ ps. filter has_alphanumeric (map encode_utf8_all ps)) p.pieces
    ∙ ap (filter has_alphanumeric) (map-append encode_utf8_all (p.first ∷ p.others) (cut_words p.left ((c ∷ cs) ++ ds)))
    ∙ filter-append has_alphanumeric (map encode_utf8_all (p.first ∷ p.others)) (map encode_utf8_all (cut_words p.left ((c ∷ cs) ++ ds)))
    ∙ ap₂ ◌++◌ (delimiters_no_words (p.first ∷ p.others) p.delimiters) (one_word p.left c cs ds h k)

-- letters and digits between delimiters are the only word
pub words-between_delimiters : (front : List ℕ) (c : ℕ) (cs back : List ℕ) → AllDelimiters front → AllPlain (c ∷ cs) → AllDelimiters back
    → words (front ++ ((c ∷ cs) ++ back)) ≡ (c ∷ cs) ∷ []
unfolding segments
words-between_delimiters front c cs back all h k =
    let ascii = IsAscii-append front ((c ∷ cs) ++ back) (IsAscii-delimiters front all)
    (IsAscii-append (c ∷ cs) back (IsAscii-plain (c ∷ cs) h) (IsAscii-delimiters back k)) in
    ap (λ t. filter has_alphanumeric (map encode_utf8_all (cut_words [] t))) (chars-IsAscii (front ++ ((c ∷ cs) ++ back)) ascii)
    ∙ one_word_past front c cs back all h k
