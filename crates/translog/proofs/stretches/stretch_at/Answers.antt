use Rattle.std.proofs.Common.{◌<◌, ◌+◌, ◌^◌, List, ℕ, Bor, length, map, subst, sym, arith}
use Rattle.std.specs.List.{flat_map}
use Rattle.std.specs.Prelude.{IfOk}
use Rattle.translog.specs.Frames.{framed, AreContents}
use Rattle.translog.specs.Pieces.{ArePieces}
use Rattle.translog.proofs.StretchLaws.{cut_at, stretch-room, stretch-small}
use Rattle.translog.proofs.stretches.stretch_at.Goals as goal

pub stretch_of-requires-clause-small : goal.stretch_of-requires-clause-small
stretch_of-requires-clause-small c =
    let xs = c.args.contents.now in
    let is = cut_at xs c.split_at.result.1.now c.split_at-2.result.0.now c.args.begin c.args.size c.min.result c.split_at-2.ensures.front c.min.ensures c.split_at.ensures.back in
    subst (λ (l : List (Bor (List ℕ))). AreContents (map (λ v. v.now) l)) (sym is) (stretch-small (λ v. v.now) xs c.args.size c.args.begin c.requires.small)

pub stretch_of-requires-clause-offsets : goal.stretch_of-requires-clause-offsets
stretch_of-requires-clause-offsets c =
    let xs = c.args.contents.now in
    let is = cut_at xs c.split_at.result.1.now c.split_at-2.result.0.now c.args.begin c.args.size c.min.result c.split_at-2.ensures.front c.min.ensures c.split_at.ensures.back in
    subst (λ (l : List (Bor (List ℕ))). 4 + length (flat_map framed (map (λ v. v.now) l)) < 2 ^ 64) (sym is) (omega (arith, c.requires.offsets, stretch-room (λ v. v.now) xs c.args.size c.args.begin))

-- the records of the stretch at its place
pub returns : goal.returns
returns c =
    let xs = c.args.contents.now in
    let is = cut_at xs c.split_at.result.1.now c.split_at-2.result.0.now c.args.begin c.args.size c.min.result c.split_at-2.ensures.front c.min.ensures c.split_at.ensures.back in
    subst (λ (l : List (Bor (List ℕ))). IfOk c.stretch_of.result (λ s. ArePieces s.before (map (λ v. v.now) l) s.records.items s.after)) is c.stretch_of.ensures
