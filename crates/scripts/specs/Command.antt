-- What a line of a script asks.
use Rattle.std.specs.Prelude.{ℕ, Bool, true, false, ◌||◌, ◌==◌, slice_index, List, length, codes, Option, Some, None, option_map, option_and_then, if◌then◌else◌}
use Rattle.std.specs.Str.{bytes_eq}
use Rattle.replica.specs.declared.input.Condition.{Condition}
use Rattle.wire.specs.Number.{number_of}
use Rattle.wire.specs.Pieces.{text_of}
use Rattle.scripts.specs.Words.{split_word, one_word, few_words}

-- what a write does; documents are texts that are still to be read
pub data LineWrite : Type 0 where
  index : (source : List ℕ) → Option Condition → LineWrite
  create : (source : List ℕ) → LineWrite
  delete : Option Condition → LineWrite

-- copies and messages are named by their numbers; mappings, documents and searches are texts that are still to be read
pub data Command : Type 0 where
  opening : (copies : ℕ) (mapping : List ℕ) → Command
  write : (copy : ℕ) (id : List ℕ) → LineWrite → Command
  get : (copy : ℕ) (id : List ℕ) → Command
  refresh : (copy : ℕ) → Command
  restart : (copy : ℕ) → Command
  -- the beginning of a merge of a copy's parts, and its end
  merge : (copy : ℕ) → Command
  swap : (copy : ℕ) → Command
  search : (copy : ℕ) (body : List ℕ) → Command
  deliver : (message : ℕ) → Command
  promote : (copy : ℕ) → Command
  allocate : Command
  fail : (copy : ℕ) → Command
  -- a delivery and a write whose append is cut, with the record kept or not
  torn_delivery : (message : ℕ) → (kept : Bool) → Command
  torn_put : (copy : ℕ) → (kept : Bool) → (id source : List ℕ) → Command
  -- puts of `{}` whose records are kept together, and such puts where the append is cut
  bulk : (copy : ℕ) → (ids : List (List ℕ)) → Command
  torn_bulk : (copy : ℕ) → (kept : Bool) → (ids : List (List ℕ)) → Command

-- a number, and the text after the space that follows it
abbrev pub number_then : List ℕ → Option (ℕ × List ℕ)
number_then text = option_and_then (λ at. option_map (λ n. (n, at.1)) (number_of at.0)) (split_word text)

-- the numbers of a condition, and the text after them
abbrev pub condition_then : List ℕ → Option (Condition × List ℕ)
condition_then text = option_and_then (λ at. option_map (λ next. (record { seq = at.0; term = next.0 }, next.1)) (number_then at.1)) (number_then text)

-- `open N MAPPING`
abbrev pub open_of : List ℕ → Option Command
open_of text = option_map (λ at. opening at.0 at.1) (number_then text)

-- `put C ID JSON`
abbrev pub put_of : List ℕ → Option Command
put_of text = option_and_then (λ at. option_map (λ words. write at.0 words.0 (index words.1 None)) (split_word at.1)) (number_then text)

-- `create C ID JSON`
abbrev pub create_of : List ℕ → Option Command
create_of text = option_and_then (λ at. option_map (λ words. write at.0 words.0 (create words.1)) (split_word at.1)) (number_then text)

-- `del C ID`
abbrev pub del_of : List ℕ → Option Command
del_of text = option_and_then (λ at. option_map (λ id. write at.0 id (delete None)) (one_word at.1)) (number_then text)

-- `putif C SEQ TERM ID JSON`
abbrev pub putif_of : List ℕ → Option Command
putif_of text = option_and_then (λ at. option_and_then (λ on. option_map (λ words. write at.0 words.0 (index words.1 (Some on.0))) (split_word on.1)) (condition_then at.1)) (number_then text)

-- `delif C SEQ TERM ID`
abbrev pub delif_of : List ℕ → Option Command
delif_of text = option_and_then (λ at. option_and_then (λ on. option_map (λ id. write at.0 id (delete (Some on.0))) (one_word on.1)) (condition_then at.1)) (number_then text)

-- `get C ID`
abbrev pub get_of : List ℕ → Option Command
get_of text = option_and_then (λ at. option_map (λ id. get at.0 id) (one_word at.1)) (number_then text)

-- `refresh C`
abbrev pub refresh_of : List ℕ → Option Command
refresh_of text = option_map refresh (number_of text)

-- `restart C`
abbrev pub restart_of : List ℕ → Option Command
restart_of text = option_map restart (number_of text)

-- `merge C`
abbrev pub merge_of : List ℕ → Option Command
merge_of text = option_map merge (number_of text)

-- `swap C`
abbrev pub swap_of : List ℕ → Option Command
swap_of text = option_map swap (number_of text)

-- `search C JSON`
abbrev pub search_of : List ℕ → Option Command
search_of text = option_map (λ at. search at.0 at.1) (number_then text)

-- `deliver K`
abbrev pub deliver_of : List ℕ → Option Command
deliver_of text = option_map deliver (number_of text)

-- `promote C`
abbrev pub promote_of : List ℕ → Option Command
promote_of text = option_map promote (number_of text)

-- `fail R`
abbrev pub fail_of : List ℕ → Option Command
fail_of text = option_map fail (number_of text)

-- 1 where a torn step's record is kept, 0 where it isn't
abbrev pub kept_of : List ℕ → Option Bool
kept_of word = if bytes_eq word (codes "1") then Some true else (if bytes_eq word (codes "0") then Some false else None)

-- that word, and the text after the space that follows it
abbrev pub kept_then : List ℕ → Option (Bool × List ℕ)
kept_then text = option_and_then (λ at. option_map (λ kept. (kept, at.1)) (kept_of at.0)) (split_word text)

-- `torn K 0` and `torn K 1`
abbrev pub torn_of : List ℕ → Option Command
torn_of text = option_and_then (λ at. option_map (λ kept. torn_delivery at.0 kept) (kept_of at.1)) (number_then text)

-- `tornput C 0 ID JSON` and `tornput C 1 ID JSON`
abbrev pub tornput_of : List ℕ → Option Command
tornput_of text = option_and_then (λ at. option_and_then (λ on. option_map (λ words. torn_put at.0 on.0 words.0 words.1) (split_word on.1)) (kept_then at.1)) (number_then text)

-- `bulk C ID ..`
abbrev pub bulk_of : List ℕ → Option Command
bulk_of text = option_and_then (λ at. option_map (λ ids. bulk at.0 ids) (few_words at.1)) (number_then text)

-- `tornbulk C 0 ID ..` and `tornbulk C 1 ID ..`
abbrev pub tornbulk_of : List ℕ → Option Command
tornbulk_of text = option_and_then (λ at. option_and_then (λ on. option_map (λ ids. torn_bulk at.0 on.0 ids) (few_words on.1)) (kept_then at.1)) (number_then text)

-- the command of a word with the text after it
abbrev pub command_named : List ℕ → List ℕ → Option Command
command_named word text =
    if bytes_eq word (codes "open") then open_of text else (
    if bytes_eq word (codes "put") then put_of text else (
    if bytes_eq word (codes "create") then create_of text else (
    if bytes_eq word (codes "del") then del_of text else (
    if bytes_eq word (codes "putif") then putif_of text else (
    if bytes_eq word (codes "delif") then delif_of text else (
    if bytes_eq word (codes "get") then get_of text else (
    if bytes_eq word (codes "refresh") then refresh_of text else (
    if bytes_eq word (codes "restart") then restart_of text else (
    if bytes_eq word (codes "merge") then merge_of text else (
    if bytes_eq word (codes "swap") then swap_of text else (
    if bytes_eq word (codes "search") then search_of text else (
    if bytes_eq word (codes "deliver") then deliver_of text else (
    if bytes_eq word (codes "promote") then promote_of text else (
    if bytes_eq word (codes "fail") then fail_of text else (
    if bytes_eq word (codes "torn") then torn_of text else (
    if bytes_eq word (codes "tornput") then tornput_of text else (
    if bytes_eq word (codes "bulk") then bulk_of text else (
    if bytes_eq word (codes "tornbulk") then tornbulk_of text else None))))))))))))))))))

-- a word alone
abbrev pub command_alone : List ℕ → Option Command
command_alone word = if bytes_eq word (codes "allocate") then Some allocate else None

abbrev pub command_in : List ℕ → Option (List ℕ × List ℕ) → Option Command
command_in text None = command_alone text
command_in text (Some at) = command_named at.0 at.1

-- the command of a line that is text, where its words are known and right in number, and its numbers are numbers
abbrev pub command_of : List ℕ → Option Command
command_of line = option_and_then (λ text. command_in text (split_word text)) (text_of line)

-- an empty line and a comment are passed over
abbrev pub is_passed_over : List ℕ → Bool
is_passed_over line = (length line == 0) || (slice_index line 0 == 35)
