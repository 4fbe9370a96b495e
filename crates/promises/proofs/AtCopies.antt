-- What a client of an index of several copies may rely on.
use Rattle.std.proofs.Common.{◌≡◌, ◌+◌, ℕ, zero, suc, Bool, true, false, List, [], ◌∷◌, ◌++◌, length, map, Option, Some, None, Result, Ok, Err, inl, inr, refl, sym, ap, subst, ◌∙◌, arith, append_assoc, append-nil}
use Rattle.std.specs.Prelude.{IfSome, slice_get}
use mathlib.Core.List.{IsPrefix}
use Rattle.chronicle.specs.Registered.{PrefixData, prefix}
use Rattle.chronicle.proofs.Lines.{prefix_trans}
use Rattle.doc.specs.Id.{Id}
use Rattle.doc.specs.Mapping.{MappingData}
use Rattle.op.specs.declared.operation.Op.{Op}
use Rattle.op.specs.declared.record.Record.{Record}
use Rattle.op.specs.Documents.{document_at, documents}
use Rattle.op.specs.Operations.{IsAscending, is_on}
use Rattle.op.proofs.DocumentLaws.{document_at-documents}
use Rattle.op.proofs.RecordLaws.{IsAscending-operations}
use Rattle.replica.specs.declared.fault.CopyFault.{CopyFault}
use Rattle.replica.specs.declared.input.Input.{Input}
use Rattle.replica.specs.declared.input.Input.TheVariants.{Write as Client, Bulk}
use Rattle.replica.specs.declared.input.Write as taken
use Rattle.replica.specs.declared.output.Answer.{Answer}
use Rattle.replica.specs.declared.output.Answer.TheVariants as answer
use Rattle.replica.specs.declared.output.Item.{Item}
use Rattle.replica.specs.declared.output.Item.TheVariants.{Wrote as WroteItem, Refused as RefusedItem}
use Rattle.replica.specs.declared.output.Output.{Output}
use Rattle.replica.specs.declared.output.Written.{Written}
use Rattle.replica.specs.declared.role.Role.{Role}
use Rattle.replica.specs.declared.role.Role.TheVariants.{Empty, Replica, Primary}
use Rattle.replica.specs.Copy.{Copy, operations}
use Rattle.replica.specs.Step.{Stepped, bulk as bulk_step, copy_step, folded, get_answer, stepped, unwritten}
use Rattle.journal.specs.declared.journal.Deed.{Deed}
use Rattle.journal.specs.Journal.{Shut, Standing, IsLegal, IsLegalAt, IsOutputOf, MayAnswer, after, answered, left_by, next, open_at}
use Rattle.node.specs.Entry.{Receipt}
use Rattle.node.specs.Heard.{IsNotBefore}
use Rattle.node.specs.Reading.{got_by, standing}
use Rattle.cluster.specs.Bulks.{bulked as items_in, bulked_as}
use Rattle.cluster.specs.Confirmed.{wrote as written_in, written_as}
use Rattle.front.specs.declared.command.Write.{Write}
use Rattle.front.specs.declared.reply.Found.{Found}
use Rattle.front.specs.declared.reply.Wrote.{Wrote}
use Rattle.front.specs.declared.reply.ItemReply.{ItemReply}
use Rattle.front.specs.declared.reply.ItemReply.TheVariants as item
use Rattle.front.specs.Command.{Command, write, bulk, get}
use Rattle.front.specs.Reply.{Reply, wrote, bulked, got, refused}
use Rattle.shard.specs.Answering.{reply_of, write_of, wrote_of}
use Rattle.group.specs.Group.{IsBulkWritten, IsGot, IsTold, IsWritten, counted_at, replies_at, told_by}
use Rattle.group.specs.Known.{Heard, KnownData}
use Rattle.promises.specs.Promises.{HasWrite, IsAcknowledged, alone, among}
use Rattle.promises.specs.Copies.{AreWithoutReset, HasFrom, IsReadAfter, WritesAreFoundAtCopies}
use Rattle.promises.proofs.Lists.{has_write}
use Rattle.promises.proofs.Standings.{HasAt, RisesAt, goes_on_at, has_after, rises_after}
use Rattle.promises.proofs.Steps.{Has}
use Rattle.promises.proofs.Written.{IsItem, fold_kept, get_map, keeps_one, wrote_step}

-- ---- the entry of a write

-- the records have an operation of this number on the id
pub record HasKeptIn (id : Id) (seq : ℕ) (rs : List Record) : Type 0 where
  pub op : Op
  pub number : op.seq ≡ seq
  pub on : is_on id op ≡ true
  pub has : Has op rs

pub record HasKeptAt (id : Id) (seq : ℕ) (s : Standing) : Type 0 where
  pub op : Op
  pub number : op.seq ≡ seq
  pub on : is_on id op ≡ true
  pub there : HasAt op s

pub written_one : (x y : Written) → (let o : Option Written = Some x in o) ≡ Some y → x ≡ y
written_one x y e = cc

module _ (c : Copy) (up : IsAscending (operations c)) where
  pub wrote_here : (w : taken.Write) (y : Written) (output : Output) → IsOutputOf c (copy_step c (Client w)) output → written_as output.answer ≡ Some y → HasKeptIn w.id y.seq (left_by c (copy_step c (Client w))).records
  wrote_here w y output legal told =
      let s : Stepped = stepped (left_by c (copy_step c (Client w))) output in
      let kept = keeps_one c up w s legal.0 in
      let answer = (wrote_step c w s c.role legal.0).1 in
      let same = written_one _ y (sym (ap written_as answer) ∙ told) in
      record { op = kept.op; number = kept.number ∙ ap (λ (z : Written). z.seq) same; on = kept.on; has = kept.there.0 }

  items_one : (xs ys : List Item) → (let o : Option (List Item) = Some xs in o) ≡ Some ys → xs ≡ ys
  items_one xs ys e = cc

  pub in_bulk : (ws : List taken.Write) (is : List Item) (s : Stepped) (at : ℕ) (w : taken.Write) (y : Written) → slice_get ws at ≡ Some w → slice_get is at ≡ Some (WroteItem y)
      → (role : Role) → bulk_step c ws role ≡ Ok s → bulked_as s.answer ≡ Some is → HasKeptIn w.id y.seq s.copy.records
  in_bulk ws is s at w y there kept Empty e told = absurd cc
  in_bulk ws is s at w y there kept Replica e told = absurd cc
  in_bulk ws is s at w y there kept (Primary lead) e told =
      let all = fold_kept (unwritten c) up ws in
      let b = folded (unwritten c) ws in
      let same : record { copy = b.copy; answer = answer.Bulked b.items; sent = b.sent; acknowledged = b.acknowledged } ≡ s = cc in
      let items : all.more ≡ is = sym all.items ∙ items_one b.items is (ap (λ (z : Stepped). bulked_as z.answer) same ∙ told) in
      let one = all.each at w y there (ap (λ l. slice_get l at) items ∙ kept) in
      subst (λ (z : Stepped). HasKeptIn w.id y.seq z.copy.records) same (record { op = one.op; number = one.number; on = one.on; has = one.there.0 })

here : (id : Id) (seq : ℕ) (c : Copy) → HasKeptIn id seq c.records → HasKeptAt id seq (open_at c)
here id seq c is = record { op = is.op; number = is.number; on = is.on; there = record { copy = is.has; other = tt } }

at_write : (c : Copy) (up : IsAscending (operations c)) (shut : Option Shut) (place : ℕ) (w : taken.Write) (y : Written) (a : Result Output CopyFault) → MayAnswer c shut (Client w) a → written_in a ≡ Some y
    → HasKeptAt w.id y.seq (answered c shut place (Client w) a)
at_write c up None place w y (Ok output) legal told = here w.id y.seq _ (wrote_here c up w y output legal told)
at_write c up None place w y (Err e) legal told = absurd cc
at_write c up (Some f) place w y (Ok output) legal told = absurd (let never : false ≡ true = legal.restart in cc)
at_write c up (Some f) place w y (Err e) legal told = absurd cc

at_bulk : (c : Copy) (up : IsAscending (operations c)) (shut : Option Shut) (place : ℕ) (ws : List taken.Write) (is : List Item) (a : Result Output CopyFault) → MayAnswer c shut (Bulk ws) a → items_in a ≡ Some is
    → (at : ℕ) (w : taken.Write) (y : Written) → slice_get ws at ≡ Some w → slice_get is at ≡ Some (WroteItem y) → HasKeptAt w.id y.seq (answered c shut place (Bulk ws) a)
at_bulk c up None place ws is (Ok output) legal told at w y there kept =
    here w.id y.seq _ (in_bulk c up ws is (stepped (left_by c (copy_step c (Bulk ws))) output) at w y there kept c.role legal.0 told)
at_bulk c up None place ws is (Err e) legal told at w y there kept = absurd cc
at_bulk c up (Some f) place ws is (Ok output) legal told at w y there kept = absurd (let never : false ≡ true = legal.restart in cc)
at_bulk c up (Some f) place ws is (Err e) legal told at w y there kept = absurd cc

-- the entry of a write, among those that were known when it was acknowledged
pub record IsWriteOf (acked : PrefixData Deed) (id : Id) (seq : ℕ) : Type 0 where
  pub front : List Deed
  pub deed : Deed
  pub known : IsPrefix (front ++ deed ∷ []) acked.entries
  pub keeps : (s : Standing) (place : ℕ) → RisesAt s → IsLegalAt s deed → HasKeptAt id seq (next s place deed)

deed_one : (x y : Deed) → (let o : Option Deed = Some x in o) ≡ Some y → x ≡ y
deed_one x y e = cc

pub last_split : (xs : List Deed) (n : ℕ) (x : Deed) → slice_get xs n ≡ Some x → n + 1 ≡ length xs → (front : List Deed) × (xs ≡ front ++ x ∷ [])
last_split [] zero x is last = absurd cc
last_split [] (suc n) x is last = absurd cc
last_split (y ∷ []) zero x is last = ([], ap (λ (z : Deed). z ∷ []) (deed_one y x is))
last_split (y ∷ z ∷ xs) zero x is last = absurd (omega (arith, last))
last_split (y ∷ ys) (suc n) x is last =
    let rest = last_split ys n x is (omega (arith, last)) in
    (y ∷ rest.0, ap (λ (zs : List Deed). y ∷ zs) rest.1)

pub known_one : (p q : PrefixData Deed) → (let o : Heard = Some p in o) ≡ Some q → p ≡ q
known_one p q e = cc

told_seq : (a : Answer) (n : ℕ) (y : Written) (x : Wrote) → written_as a ≡ Some y → wrote x ≡ reply_of n a → x.seq ≡ y.seq
told_seq (answer.Wrote z) n y x is told =
    let same : z ≡ y = written_one z y is in
    let replied : x ≡ wrote_of n z = cc in
    ap (λ (v : Wrote). v.seq) replied ∙ ap (λ (v : Written). v.seq) same
told_seq (answer.Bulked items) n y x is told = absurd cc
told_seq answer.Taken n y x is told = absurd cc
told_seq answer.Stale n y x is told = absurd cc
told_seq answer.Repeated n y x is told = absurd cc
told_seq answer.Reported n y x is told = absurd cc
told_seq (answer.Found d) n y x is told = absurd cc
told_seq answer.Missing n y x is told = absurd cc
told_seq (answer.Point p) n y x is told = absurd cc

pub seq_by : (a : Result Output CopyFault) (n : ℕ) (y : Written) (x : Wrote) → written_in a ≡ Some y → wrote x ≡ told_by a n → x.seq ≡ y.seq
unfolding told_by
seq_by (Ok output) n y x is told = told_seq output.answer n y x is told
seq_by (Err e) n y x is told = absurd cc

entry_of_write : (J : Type 0) (w : Write) (x : Wrote) (before after : KnownData) (acked : PrefixData Deed) → after.heard ≡ Some acked → IsWritten J before w (wrote x) after → IsWriteOf acked w.id x.seq
entry_of_write J w x before after acked upto is =
    let e = is.acknowledged in
    let r : Receipt = is.confirmed.write in
    let split = last_split r.deeds r.place r.deed e.stands.stands e.stands.last in
    let heard = known_one acked (prefix is.confirmed.acknowledgement.node is.confirmed.acknowledgement.deeds) (sym upto ∙ is.heard) in
    let seq = seq_by r.deed.answer _ e.written x e.kept is.told in
    record {
      front = split.0;
      deed = r.deed;
      known = subst (λ (p : PrefixData Deed). IsPrefix (split.0 ++ r.deed ∷ []) p.entries) (sym heard) (subst (λ (ds : List Deed). IsPrefix ds is.confirmed.acknowledgement.deeds) split.1 e.behind.one);
      keeps = λ s place up legal.
          subst (λ n. HasKeptAt w.id n (next s place r.deed)) (sym seq)
          (subst (λ (i : Input). MayAnswer s.copy s.shut i r.deed.answer → HasKeptAt w.id e.written.seq (answered s.copy s.shut place i r.deed.answer)) (sym e.asked)
          (λ may. at_write s.copy up.copy s.shut place (write_of w) e.written r.deed.answer may e.kept) legal);
    }

pub reply_item : (entries : List Receipt) (is : List Item) (places : List ℕ) (at : ℕ) (x : Wrote) → slice_get (replies_at entries is places) at ≡ Some (item.Wrote x) → IsItem is at x
reply_item entries [] places zero x e = absurd cc
reply_item entries [] places (suc at) x e = absurd cc
reply_item entries (WroteItem y ∷ is) [] zero x e = record { written = y; there = refl; number = let same : wrote_of 0 y ≡ x = cc in ap (λ (v : Wrote). v.seq) same }
reply_item entries (WroteItem y ∷ is) (p ∷ ps) zero x e = record { written = y; there = refl; number = let same : wrote_of (counted_at entries p) y ≡ x = cc in ap (λ (v : Wrote). v.seq) same }
reply_item entries (RefusedItem f ∷ is) [] zero x e = absurd cc
reply_item entries (RefusedItem f ∷ is) (p ∷ ps) zero x e = absurd cc
reply_item entries (i ∷ is) [] (suc at) x e = let one = reply_item entries is [] at x e in record { written = one.written; there = one.there; number = one.number }
reply_item entries (i ∷ is) (p ∷ ps) (suc at) x e = let one = reply_item entries is ps at x e in record { written = one.written; there = one.there; number = one.number }

pub replied_same : (xs ys : List ItemReply) → (let r : Reply = bulked xs in r) ≡ bulked ys → xs ≡ ys
replied_same xs ys e = cc

entry_of_bulk : (J : Type 0) (ws : List Write) (items : List ItemReply) (at : ℕ) (w : Write) (x : Wrote) (before after : KnownData) (acked : PrefixData Deed) → after.heard ≡ Some acked → slice_get ws at ≡ Some w → slice_get items at ≡ Some (item.Wrote x)
    → IsBulkWritten J before ws (bulked items) after → IsWriteOf acked w.id x.seq
entry_of_bulk J ws items at w x before after acked upto there was is =
    let e = is.acknowledged in
    let r : Receipt = is.confirmed.bulk in
    let split = last_split r.deeds r.place r.deed e.stands.stands e.stands.last in
    let heard = known_one acked is.heard (sym upto ∙ ap (λ (k : KnownData). k.heard) is.now) in
    let told = replied_same items _ is.told.told in
    let one = reply_item is.confirmed.acknowledgements.items is.told.items is.confirmed.places.items at x (sym (ap (λ l. slice_get l at) told) ∙ was) in
    record {
      front = split.0;
      deed = r.deed;
      known = subst (λ (p : PrefixData Deed). IsPrefix (split.0 ++ r.deed ∷ []) p.entries) (sym heard) (subst (λ (ds : List Deed). IsPrefix ds is.heard.entries) split.1 is.has.bulk.entries);
      keeps = λ s place up legal.
          subst (λ n. HasKeptAt w.id n (next s place r.deed)) one.number
          (subst (λ (i : Input). MayAnswer s.copy s.shut i r.deed.answer → HasKeptAt w.id one.written.seq (answered s.copy s.shut place i r.deed.answer)) (sym e.asked)
          (λ may. at_bulk s.copy up.copy s.shut place (map write_of ws) is.told.items r.deed.answer may is.told.kept at (write_of w) one.written (get_map write_of ws at w there) one.there) legal);
    }

pub entry_of : (J : Type 0) (m : MappingData) (w : Write) (x : Wrote) (asked : Command) (reply : Reply) (before after : KnownData) (acked : PrefixData Deed) → IsAcknowledged w x asked reply → IsTold J m before asked reply after → after.heard ≡ Some acked → IsWriteOf acked w.id x.seq
entry_of J m w x _ _ before after acked alone (inl done) upto = entry_of_write J w x before after acked upto done
entry_of J m w x _ _ before after acked alone (inr refusal) upto = absurd (let never : wrote x ≡ refused refusal.0.refusal = refusal.0.told in cc)
entry_of J m w x _ _ before after acked (among ws items at there was) (inl done) upto = entry_of_bulk J ws items at w x before after acked upto there was done
entry_of J m w x _ _ before after acked (among ws items at there was) (inr refusal) upto = absurd (let never : bulked items ≡ refused refusal.0.refusal = refusal.0.told in cc)

-- ---- a get

got_in : (J : Type 0) (m : MappingData) (id : Id) (o : Option Found) (later new : KnownData) → IsTold J m later (get id) (got o) new → IsGot later id (got o) new
got_in J m id o later new (inl done) = done
got_in J m id o later new (inr refusal) = absurd (let never : got o ≡ refused refusal.0.refusal = refusal.0.told in cc)

-- what the copy has after these entries
abbrev pub left_after : Copy → List Deed → List Op
left_after opening deeds = operations (after (open_at opening) 0 deeds).copy

-- a get tells what the copy has after all entries of then
pub read_of : (id : Id) (r : Reply) (later new : KnownData) (g : IsGot later id r new) → IsReadAfter id r g.got.node g.got.deeds (left_after g.is_got.journal.opening g.got.deeds)
read_of id r later new g =
    let j = g.is_got in
    let opening : Copy = j.journal.opening in
    let os : List Op = left_after opening g.got.deeds in
    let copy : (standing j.journal).copy ≡ (after (open_at opening) 0 g.got.deeds).copy = ap (λ (ds : List Deed). (after (open_at opening) 0 ds).copy) j.deeds_is in
    record {
      opening = opening;
      legal = subst (λ (ds : List Deed). IsLegal (open_at opening) 0 ds) j.deeds_is j.legal;
      node_is = j.node_is;
      left = refl;
      told = g.told ∙ ap (reply_of 0) (j.read.has ∙ (ap (λ (c : Copy). got_by c g.got.id) copy ∙ (ap (λ (i : Id). get_answer (document_at (documents os) i)) g.id_is ∙ ap get_answer (document_at-documents os id))));
    }

module _ (opening : Copy) (sound : RisesAt (open_at opening)) (acked : PrefixData Deed) (id : Id) (seq : ℕ) (e : IsWriteOf acked id seq) where
  -- the write stays along entries that are no resets
  has_still : (more : List Deed) → IsLegal (open_at opening) 0 ((e.front ++ e.deed ∷ []) ++ more) → AreWithoutReset more → HasWrite id seq (operations (after (open_at opening) 0 ((e.front ++ e.deed ∷ []) ++ more)).copy)
  has_still more legal own =
      let first = goes_on_at (open_at opening) 0 (e.front ++ e.deed ∷ []) more legal in
      let second = goes_on_at (open_at opening) 0 e.front (e.deed ∷ []) first.first in
      let s : Standing = after (open_at opening) 0 e.front in
      let t : Standing = after (open_at opening) 0 (e.front ++ e.deed ∷ []) in
      let kept = e.keeps s second.at (rises_after (open_at opening) 0 e.front sound) second.rest.0 in
      let there : HasAt kept.op t = subst (λ (u : Standing). HasAt kept.op u) (sym second.end) kept.there in
      let at_end = has_after kept.op t first.at more (rises_after (open_at opening) 0 (e.front ++ e.deed ∷ []) sound) there own in
      let end : Standing = after (open_at opening) 0 ((e.front ++ e.deed ∷ []) ++ more) in
      let has : Has kept.op end.copy.records = subst (λ (u : Standing). Has kept.op u.copy.records) (sym first.end) at_end.copy in
      subst (λ n. HasWrite id n (operations end.copy)) kept.number (has_write (operations end.copy) id kept.op (rises_after (open_at opening) 0 ((e.front ++ e.deed ∷ []) ++ more) sound).copy has kept.on)

  pub found_still : (deeds more : List Deed) → IsLegal (open_at opening) 0 deeds → deeds ≡ (e.front ++ e.deed ∷ []) ++ more → AreWithoutReset more → HasWrite id seq (operations (after (open_at opening) 0 deeds).copy)
  found_still deeds more legal is own =
      subst (λ (ds : List Deed). HasWrite id seq (operations (after (open_at opening) 0 ds).copy)) (sym is) (has_still more (subst (λ (ds : List Deed). IsLegal (open_at opening) 0 ds) is legal) own)

-- what is known of a copy behind the write goes on from what was known then, and has the write
pub has_from : (acked known : PrefixData Deed) (id : Id) (seq : ℕ) (e : IsWriteOf acked id seq) (opening : Copy) (node : ℕ) (deeds : List Deed) → RisesAt (open_at opening) → IsLegal (open_at opening) 0 deeds
    → IsPrefix acked.entries known.entries → known.number ≡ acked.number → (node ≡ known.number → IsPrefix known.entries deeds) → HasFrom acked id seq node deeds (operations (after (open_at opening) 0 deeds).copy)
has_from acked known id seq e opening node deeds sound legal begins copy later = record {
  goes_on = λ same. prefix_trans acked.entries known.entries deeds begins (later (same ∙ sym copy));
  upto = e.front ++ e.deed ∷ [];
  known = e.known;
  has = λ same more is own. found_still opening sound acked id seq e deeds more legal is own;
}

pub writes_are_found_at_copies : (J : Type 0) (m : MappingData) → WritesAreFoundAtCopies J m
writes_are_found_at_copies J m w x asked reply o acked before after' later new is told upto knows then =
    let e = entry_of J m w x asked reply before after' acked is told upto in
    let g = got_in J m w.id o later new then in
    let opening : Copy = g.is_got.journal.opening in
    let legal : IsLegal (open_at opening) 0 g.got.deeds = subst (λ (ds : List Deed). IsLegal (open_at opening) 0 ds) g.is_got.deeds_is g.is_got.legal in
    record {
      node = g.got.node;
      deeds = g.got.deeds;
      os = left_after opening g.got.deeds;
      read = read_of w.id (got o) later new g;
      from = has_from acked knows.known w.id x.seq e opening g.got.node g.got.deeds (record { copy = IsAscending-operations opening.records g.is_got.sound; other = tt }) legal knows.entries knows.copy
          (subst (λ (h : Heard). IfSome h (λ p. IsNotBefore p g.got)) knows.is g.later);
    }
