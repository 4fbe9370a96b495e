-- The steps of a chronicle keep its rule.
use Rattle.std.proofs.Common.{◌≡◌, ℕ, ◌<◌, ◌==◌, true, false, List, [], ◌∷◌, ◌++◌, length, length-set, slice_set, refl, sym, subst, arith, append-nil, inl, None}
use prog.Atomic.{either}
use Rattle.logbook.specs.Pages.{cell, Nib, keeps, gives, adds, no_nib, may_write, step, Moves}
use Rattle.chronicle.specs.declared.law.Noted.{Noted}
use Rattle.chronicle.specs.Log.{IsUnused, IsHome, AreHome, IsKept, Makes, Looks, Writes}
use Rattle.chronicle.proofs.Cells.{home-lt, home-set, home-at, home-snoc, away-end, homes, homes-snoc, unused-away}

-- a step writes what it finds
abbrev pub left : ℕ → ℕ
left n = either (n == 0) 0 n

module _ {E : Type 0} where
  abbrev pub shown : List (Noted E) → List (Noted E)
  shown log = []

  abbrev pub moved : List (Noted E) → List (Noted E) → ℕ → Type 0
  moved xs ys n = Unit {0}

  pub make_moves : (v : List (Noted E)) (e : Noted E) → Moves IsKept shown moved 0 (v, (no_nib, None)) left (Makes (step 0 0 0 e) (v, (no_nib, None)))
  make_moves v e cells log kept pre away =
      let n = left (cell cells 0).0 in
      let after = slice_set cells 0 (n, true) ++ (0, false) ∷ [] in
      let to : (key : ℕ) → IsHome cells key → IsHome after key = λ key h. home-snoc (slice_set cells 0 (n, true)) key (home-set cells 0 key n h) in (
        home-lt cells kept.head,
        kept.head,
        (
          adds,
          [],
          None,
          tt,
          record { head = to 0 kept.head; rights = subst (AreHome after) (sym (append-nil log)) (homes cells after log to kept.rights) },
          inl (refl, refl),
          (refl, subst (IsUnused (length cells)) (sym (append-nil log)) (unused-away cells (length cells) log (away-end cells) kept.rights)),
        ),
      )

  pub look_moves : (v : List (Noted E)) (p : Nib) (e : Noted E) → p.right ≡ may_write → Moves IsKept shown moved 0 (v, (p, None)) left (Looks (step 0 0 0 e) (v, (p, None)))
  look_moves v p e right cells log kept pre away =
      let n = left (cell cells 0).0 in
      let after = slice_set cells 0 (n, true) in
      let to : (key : ℕ) → IsHome cells key → IsHome after key = λ key h. home-set cells 0 key n h in (
        home-lt cells kept.head,
        kept.head,
        (
          keeps,
          [],
          None,
          tt,
          record { head = to 0 kept.head; rights = subst (AreHome after) (sym (append-nil log)) (homes cells after log to kept.rights) },
          inl (refl, refl),
          (refl, subst (IsUnused p.key) (sym (append-nil log)) (unused-away cells p.key log (away right).1 kept.rights)),
        ),
      )

  pub write_moves : (v : List (Noted E)) (p : Nib) (e : Noted E) → p.right ≡ may_write → e.right ≡ p.key → Moves IsKept shown moved 0 (v, (p, None)) left (Writes (step 0 0 0 e) (v, (p, None)))
  write_moves v p e right own cells log kept pre away =
      let n = left (cell cells 0).0 in
      let set = slice_set cells 0 (n, true) in
      let after = slice_set set p.key (p.value, true) in
      let to : (key : ℕ) → IsHome cells key → IsHome after key = λ key h. home-set set p.key key p.value (home-set cells 0 key n h) in
      let lt : p.key < length set = omega (arith, length-set cells 0 (n, true), (away right).0) in
      let home : IsHome after e.right = subst (IsHome after) (sym own) (home-at set p.key p.value lt) in (
        home-lt cells kept.head,
        kept.head,
        (
          gives,
          e ∷ [],
          None,
          right,
          record { head = to 0 kept.head; rights = homes-snoc after log e (homes cells after log to kept.rights) home },
          inl (refl, refl),
          (log, pre, unused-away cells p.key log (away right).1 kept.rights, refl),
        ),
      )
