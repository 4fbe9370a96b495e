-- What a log of whole frames holds, and one whose last frame is torn.
use Rattle.std.proofs.Common.{◌≡◌, ℕ, zero, suc, ◌+◌, ◌-◌, ◌^◌, ◌<◌, ◌≤◌, true, false, ltb, List, [], ◌∷◌, ◌++◌, length, take, drop, Some, None, Ok, Err, refl, sym, ap, subst, ◌∙◌, append_assoc, arith, inl, inr}
use Rattle.std.specs.Int.{w32, to_le_bytes, from_le_bytes}
use Rattle.std.specs.List.{flat_map}
use Rattle.std.specs.Str.{bytes_eq}
use Rattle.std.proofs.lemmas.Bool.{cases_lt, le-ltb, lt-ltb}
use Rattle.std.proofs.lemmas.List.{append-nil, take_at, drop_at, take-append-drop, take_all, drop_all, length-append, length-take}
use Rattle.std.proofs.Math.Seq.{take-append-add}
use Rattle.std.proofs.lemmas.Nat.{from_le_bytes-to_le_bytes_4}
use Rattle.std.proofs.lemmas.Slice.Eq.{bytes_eq-Decides}
use Rattle.std.specs.Prelude.{◌⊎◌, Result}
use Rattle.translog.specs.Device.{AddsFront}
use Rattle.translog.specs.Fault.{Fault, bad_magic}
use Rattle.translog.specs.declared.frames.Torn.{Torn}
use Rattle.translog.specs.declared.frames.Torn.TheVariants.{Nothing, End, Header}
use Rattle.translog.specs.Frames.{framed, log_of, first_frame, and_then, contents_within, contents_of, contents_in, mended, AreContents, IsLog, IsOpened, IsTorn, LosesNothing, stays, ends, begins}

-- a whole frame in front is read again
pub first_again : (c rest : List ℕ) → length c < 2 ^ 32 → first_frame (framed c ++ rest) ≡ Some (c, rest)
first_again c rest lt =
    let number : from_le_bytes w32 (to_le_bytes w32 (length c)) ≡ length c = from_le_bytes-to_le_bytes_4 (length c) lt in
    let long : ltb (length (c ++ rest)) (length c) ≡ false = le-ltb _ _ (omega (arith, length-append c rest)) in
    let whole : ltb (length (framed c ++ rest)) 4 ≡ false = le-ltb _ _ (omega arith) in
    rw (whole, number, long, take_at c rest (length c) refl, drop_at c rest (length c) refl) refl

-- each frame has bytes of its own
pub contents_count : (cs : List (List ℕ)) → length cs ≤ length (flat_map framed cs)
contents_count [] = omega arith
contents_count (c ∷ cs) = let rest = contents_count cs in let joined = length-append c (flat_map framed cs) in omega arith

-- whole frames and then none
contents_split : (n : ℕ) (cs : List (List ℕ)) (rest : List ℕ) → AreContents cs → first_frame rest ≡ None → length cs ≤ n → contents_within n (flat_map framed cs ++ rest) ≡ cs
contents_split zero [] rest small none le = refl
contents_split zero (c ∷ cs) rest small none le = absurd (omega arith)
contents_split (suc n) [] rest small none le = ap (λ o. and_then o (contents_within n)) none
contents_split (suc n) (c ∷ cs) rest small none le =
    let regrouped : flat_map framed (c ∷ cs) ++ rest ≡ framed c ++ (flat_map framed cs ++ rest) = append_assoc (framed c) (flat_map framed cs) rest in
    ap (contents_within (suc n)) regrouped ∙ ap (λ o. and_then o (contents_within n)) (first_again c (flat_map framed cs ++ rest) small.0) ∙ ap (λ l. c ∷ l) (contents_split n cs rest small.1 none (omega arith))

pub contents_are : (cs : List (List ℕ)) (rest : List ℕ) → AreContents cs → first_frame rest ≡ None → contents_of (flat_map framed cs ++ rest) ≡ cs
unfolding contents_of
contents_are cs rest small none = contents_split (length (flat_map framed cs ++ rest)) cs rest small none (omega (arith, contents_count cs, length-append (flat_map framed cs) rest))

same_bytes : (xs ys : List ℕ) → xs ≡ ys → bytes_eq xs ys ≡ true
same_bytes xs ys e = (bytes_eq-Decides xs ys).1 e

pub no_frame : (bytes : List ℕ) → length bytes < 4 → first_frame bytes ≡ None
no_frame bytes lt = rw (lt-ltb (length bytes) 4 lt) refl

-- a log of whole frames, and less than one more
pub contents_in_log : (header : List ℕ) (cs : List (List ℕ)) (rest : List ℕ) → length header ≡ 4 → AreContents cs → first_frame rest ≡ None → contents_in header (log_of header cs ++ rest) ≡ Ok cs
unfolding contents_in
contents_in_log header cs rest four small none =
    let regrouped : log_of header cs ++ rest ≡ header ++ (flat_map framed cs ++ rest) = append_assoc header (flat_map framed cs) rest in
    let front : take 4 (header ++ (flat_map framed cs ++ rest)) ≡ header = take_at header (flat_map framed cs ++ rest) 4 four in
    let behind : drop 4 (header ++ (flat_map framed cs ++ rest)) ≡ flat_map framed cs ++ rest = drop_at header (flat_map framed cs ++ rest) 4 four in
    let all : take (length (header ++ (flat_map framed cs ++ rest))) header ≡ header = take_all _ header (omega (arith, length-append header (flat_map framed cs ++ rest))) in
    ap (contents_in header) regrouped ∙ rw (front, all, behind, same_bytes header header refl, contents_are cs rest small none) refl

contents_of_nothing : contents_of [] ≡ []
unfolding contents_of
contents_of_nothing = refl

-- a header that is torn, as it is tested
pub contents_in_short : (header bytes : List ℕ) → length bytes ≤ 4 → bytes_eq (take 4 bytes) (take (length bytes) header) ≡ true → contents_in header bytes ≡ Ok []
unfolding contents_in
contents_in_short header bytes le begun = rw (begun, drop_all 4 bytes le, contents_of_nothing) refl

-- a header that is torn
pub contents_in_torn : (header : List ℕ) (k : ℕ) → length header ≡ 4 → contents_in header (take k header) ≡ Ok []
contents_in_torn header k four =
    let short : length (take k header) ≤ 4 = omega (arith, length-take k header) in
    let front : take (length (take k header)) header ≡ take k header = ap (take (length (take k header))) (sym (take-append-drop k header)) ∙ take_at (take k header) (drop k header) (length (take k header)) refl in
    contents_in_short header (take k header) short (same_bytes (take 4 (take k header)) (take (length (take k header)) header) (take_all 4 (take k header) short ∙ sym front))

-- other first bytes
pub contents_in_other : (header bytes : List ℕ) → bytes_eq (take 4 bytes) (take (length bytes) header) ≡ false → contents_in header bytes ≡ Err bad_magic
unfolding contents_in
contents_in_other header bytes other = rw other refl

-- the log that was read, whole frames and the bytes after them
pub contents_in_read : (header bytes : List ℕ) (cs : List (List ℕ)) (rest : List ℕ) → length header ≡ 4 → 4 ≤ length bytes → bytes_eq (take 4 bytes) (take (length bytes) header) ≡ true
    → drop 4 bytes ≡ flat_map framed cs ++ rest → AreContents cs → first_frame rest ≡ None → (contents_in header bytes ≡ Ok cs) × (bytes ≡ log_of header cs ++ rest)
contents_in_read header bytes cs rest four long begun parts small none =
    let front : take 4 bytes ≡ header = (bytes_eq-Decides (take 4 bytes) (take (length bytes) header)).0 begun ∙ take_all (length bytes) header (omega arith) in
    let whole : bytes ≡ log_of header cs ++ rest = sym (take-append-drop 4 bytes) ∙ ap (λ l. l ++ drop 4 bytes) front ∙ ap (λ l. header ++ l) parts ∙ sym (append_assoc header (flat_map framed cs) rest) in
    (ap (contents_in header) whole ∙ contents_in_log header cs rest four small none, whole)

-- the front of a log that was read
pub log_front : (header : List ℕ) (cs : List (List ℕ)) (rest bytes : List ℕ) (n : ℕ) → bytes ≡ log_of header cs ++ rest → length bytes ≡ n + length rest → take n bytes ≡ log_of header cs
log_front header cs rest bytes n whole len = ap (take n) whole ∙ take_at (log_of header cs) rest n (omega (arith, ap length whole, length-append (log_of header cs) rest))

pub whole_log : (header : List ℕ) (cs : List (List ℕ)) → length header ≡ 4 → AreContents cs → contents_in header (log_of header cs) ≡ Ok cs
whole_log header cs four small = ap (contents_in header) (sym (append-nil (log_of header cs))) ∙ contents_in_log header cs [] four small refl

front_length : (header held rest : List ℕ) (cs : List (List ℕ)) → held ≡ log_of header cs ++ rest → length held ≡ (length held - length rest) + length rest
front_length header held rest cs whole = omega (arith, ap length whole, length-append (log_of header cs) rest)

-- ---- what is torn

same_contents : (cs ds : List (List ℕ)) → (let r : Result (List (List ℕ)) Fault = Ok cs in r) ≡ Ok ds → cs ≡ ds
same_contents cs ds e = cc

-- less than a header
pub torn_header : (header held : List ℕ) → length header ≡ 4 → length held < 4 → bytes_eq (take 4 held) (take (length held) header) ≡ true → IsTorn header held [] Header
torn_header header held four lt begun =
    let was : held ≡ take (length held) header = sym (take_all 4 held (omega arith)) ∙ (bytes_eq-Decides (take 4 held) (take (length held) header)).0 begun in
    record {
      log = record { whole = sym (append-nil header); small = tt };
      left = begins (length held) 4 lt was (sym (take_all 4 header (omega arith)));
      short = λ e. (length held, lt, was);
    }

-- whole frames, and less than one more
pub torn_log : (header held rest : List ℕ) (cs : List (List ℕ)) (torn : Torn) → held ≡ log_of header cs ++ rest → AreContents cs → first_frame rest ≡ None
    → (length rest ≡ 0 → torn ≡ Nothing) → (0 < length rest → torn ≡ End (length held - length rest)) → IsTorn header held cs torn
torn_log header held [] cs torn whole small none nothing end =
    subst (λ (t : Torn). IsTorn header held cs t) (sym (nothing refl)) (record {
      log = record { whole = whole ∙ append-nil (log_of header cs); small = small };
      left = stays refl;
      short = λ e. absurd cc;
    })
torn_log header held (x ∷ rest) cs torn whole small none nothing end =
    let n = length held - length (x ∷ rest) in
    let front : take n held ≡ log_of header cs = log_front header cs (x ∷ rest) held n whole (front_length header held (x ∷ rest) cs whole) in
    let log : IsLog header (take n held) cs = record { whole = front; small = small } in
    subst (λ (t : Torn). IsTorn header held cs t) (sym (end (omega arith))) (record {
      log = log;
      left = ends cs (x ∷ rest) log (whole ∙ ap (λ l. l ++ (x ∷ rest)) (sym front)) none;
      short = λ e. absurd cc;
    })

-- what is left of a torn end that was cut off, or wasn't
pub cut_loses_nothing : (header old new : List ℕ) (cs : List (List ℕ)) (whole : ℕ) → IsTorn header old cs (End whole) → (new ≡ old) ⊎ (new ≡ take whole old) → LosesNothing header old new
cut_loses_nothing header old new cs whole torn (inl e) = stays e
cut_loses_nothing header old new cs whole torn (inr e) = subst (λ (x : List ℕ). LosesNothing header old x) (sym e) torn.left

-- what is left of a torn header that was cut off, or wasn't
pub header_cut : (header old mid new : List ℕ) (m : ℕ) → m < 4 → old ≡ take m header → mid ≡ old → (new ≡ mid) ⊎ (new ≡ take 0 mid) → LosesNothing header old new
header_cut header old mid new m lt was is (inl e) = stays (e ∙ is)
header_cut header old mid new m lt was is (inr e) = begins m 0 lt was e

-- a header of which a front was written
pub header_added : (header old mid new : List ℕ) (m : ℕ) → m < 4 → old ≡ take m header → mid ≡ [] → AddsFront mid header new → LosesNothing header old new
header_added header old mid new m lt was is added = begins m added.0 lt was (added.1 ∙ ap (λ l. l ++ take added.0 header) is)

-- a log that was read and mended
pub opened_of : (header same old mid new : List ℕ) (cs : List (List ℕ)) (torn : Torn) (before between now : ℕ) → same ≡ header → mid ≡ old → IsTorn header old cs torn
    → new ≡ mended same mid torn → now ≡ between → between ≡ before → IsOpened header old new cs before now
opened_of header same old mid new cs torn before between now named is found made counts counted =
    let whole : new ≡ mended header old torn = made ∙ ap (λ h. mended h mid torn) named ∙ ap (λ l. mended header l torn) is in
    record {
      whole = subst (λ (x : List ℕ). IsLog header x cs) (sym whole) found.log;
      left = subst (λ (x : List ℕ). LosesNothing header old x) (sym whole) found.left;
      counts = counts ∙ counted;
    }

-- ---- what stays where nothing is lost

contents_before : (header old new rest : List ℕ) (cs : List (List ℕ)) → length header ≡ 4 → IsLog header new cs → old ≡ new ++ rest → first_frame rest ≡ None → contents_in header old ≡ Ok cs
contents_before header old new rest cs four log is none = ap (contents_in header) (is ∙ ap (λ l. l ++ rest) log.whole) ∙ contents_in_log header cs rest four log.small none

pub contents_stay : (header old new : List ℕ) → length header ≡ 4 → LosesNothing header old new → contents_in header new ≡ contents_in header old
contents_stay header old new four (stays e) = ap (contents_in header) e
contents_stay header old new four (ends cs rest log is none) =
    ap (contents_in header) log.whole ∙ whole_log header cs four log.small ∙ sym (contents_before header old new rest cs four log is none)
contents_stay header old new four (begins m n lt was is) =
    ap (contents_in header) is ∙ contents_in_torn header n four ∙ sym (ap (contents_in header) was ∙ contents_in_torn header m four)

pub whole_stays : (header old new : List ℕ) (cs : List (List ℕ)) → length header ≡ 4 → IsLog header old cs → LosesNothing header old new → new ≡ old
whole_stays header old new cs four log (stays e) = e
whole_stays header old new cs four log (ends found rest other is none) =
    let one : contents_in header old ≡ Ok cs = ap (contents_in header) log.whole ∙ whole_log header cs four log.small in
    let two : contents_in header old ≡ Ok found = contents_before header old new rest found four other is none in
    other.whole ∙ ap (log_of header) (same_contents found cs (sym two ∙ one)) ∙ sym log.whole
whole_stays header old new cs four log (begins m n lt was is) =
    absurd (omega (arith, ap length log.whole, ap length was, length-append header (flat_map framed cs), length-take m header))

pub a_beginning : (header old new : List ℕ) → LosesNothing header old new → ((rest : List ℕ) × (old ≡ new ++ rest)) ⊎ ((n : ℕ) × (new ≡ take n header))
a_beginning header old new (stays e) = inl ([], sym e ∙ sym (append-nil new))
a_beginning header old new (ends cs rest log is none) = inl (rest, is)
a_beginning header old new (begins m n lt was is) = inr (n, is)

-- ---- a front of a frame that isn't the whole of it

cut_frame : (c : List ℕ) (j : ℕ) → length c < 2 ^ 32 → j < length c → first_frame (to_le_bytes w32 (length c) ++ take j c) ≡ None
cut_frame c j small lt =
    let number : from_le_bytes w32 (to_le_bytes w32 (length c)) ≡ length c = from_le_bytes-to_le_bytes_4 (length c) small in
    let whole : ltb (length (to_le_bytes w32 (length c) ++ take j c)) 4 ≡ false = le-ltb _ _ (omega arith) in
    let short : ltb (length (take j c)) (length c) ≡ true = lt-ltb (length (take j c)) (length c) (omega (arith, length-take j c)) in
    rw (whole, number, short) refl

pub torn_frame : (c : List ℕ) (k : ℕ) → length c < 2 ^ 32 → k < 4 + length c → first_frame (take k (framed c)) ≡ None
torn_frame c k small lt =
    elim (cases_lt k 4) [
      | inl few ↦ no_frame (take k (framed c)) (omega (arith, length-take k (framed c)))
      | inr le ↦ let front : take (4 + (k - 4)) (framed c) ≡ to_le_bytes w32 (length c) ++ take (k - 4) c = take-append-add (to_le_bytes w32 (length c)) c (k - 4) in
          let same : k ≡ 4 + (k - 4) = omega arith in
          ap first_frame (ap (λ n. take n (framed c)) same ∙ front) ∙ cut_frame c (k - 4) small (omega arith)
    ]
