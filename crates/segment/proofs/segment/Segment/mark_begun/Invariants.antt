use Rattle.std.proofs.Common.{◌≡◌, ◌<◌, All, length, map, string_bytes, nat_eq, true}
use Rattle.std.specs.List.{list_all, starts_with}
use Rattle.std.specs.Map.Iter.{deref_pair}
use Rattle.marks.specs.Lists.{marked}
use Rattle.segment.proofs.Runs.{seen_marks}
use Rattle.segment.proofs.segment.Segment.mark_begun.Given as goal

-- once the list of the word before is marked, the documents with one of the words so far are, and these begin with the prefix
abbrev pub invariant-loop-word : goal.invariant-loop-word
invariant-loop-word l = record {
  within : All (λ p. p < length l.marks) l.before;
  marked : marked l.marks l.before ≡ seen_marks l.self.mapping l._name l.initial.marks l.self.sources (map deref_pair l.yielded);
  all : list_all (λ e. starts_with nat_eq (string_bytes e.0) l.text) (map deref_pair l.yielded) ≡ true;
}
