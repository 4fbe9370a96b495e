use Rattle.std.proofs.Common.{◌≤◌, ◌∙◌, sym, length, map, arith}
use Rattle.translog.proofs.FramesLaws.{contents_in_other, contents_in_short, contents_in_read, torn_header, torn_log}
use Rattle.translog.proofs.frames.found.Goals as goal

pub returns-then-not-begins-clause-found : goal.returns-then-not-begins-clause-found
returns-then-not-begins-clause-found c = contents_in_other c.args.header.now c.args.held.now (sym c.begins.ensures ∙ c.if-not-begins.true)

pub returns-then-held-lt-HEADER-clause-found : goal.returns-then-held-lt-HEADER-clause-found
returns-then-held-lt-HEADER-clause-found c =
    rw c.new.ensures.items (contents_in_short c.args.header.now c.args.held.now (omega (arith, c.if-held-lt-HEADER.true)) (sym c.begins.ensures ∙ c.if-not-begins.false))

pub returns-then-held-lt-HEADER-clause-torn : goal.returns-then-held-lt-HEADER-clause-torn
returns-then-held-lt-HEADER-clause-torn c =
    rw c.new.ensures.items (torn_header c.args.header.now c.args.held.now c.told-header (omega (arith, c.if-held-lt-HEADER.true)) (sym c.begins.ensures ∙ c.if-not-begins.false))

pub returns-clause-found : goal.returns-clause-found
returns-clause-found c =
    let long : 4 ≤ length c.args.held.now = omega (arith, c.if-held-lt-HEADER.false) in
    (contents_in_read c.args.header.now c.args.held.now (map (λ v. v.now) c.in_ok-contents.contents.items) c.in_ok-contents.rest.now c.told-header long (sym c.begins.ensures ∙ c.if-not-begins.false)
    (sym c.split_at.ensures.back ∙ c.in_ok-contents.ensures.parts) c.in_ok-contents.ensures.small c.in_ok-contents.ensures.rest).0

pub returns-clause-torn : goal.returns-clause-torn
returns-clause-torn c =
    let long : 4 ≤ length c.args.held.now = omega (arith, c.if-held-lt-HEADER.false) in
    let contents = map (λ v. v.now) c.in_ok-contents.contents.items in
    let read = contents_in_read c.args.header.now c.args.held.now contents c.in_ok-contents.rest.now c.told-header long (sym c.begins.ensures ∙ c.if-not-begins.false)
    (sym c.split_at.ensures.back ∙ c.in_ok-contents.ensures.parts) c.in_ok-contents.ensures.small c.in_ok-contents.ensures.rest in
    torn_log c.args.header.now c.args.held.now c.in_ok-contents.rest.now contents c.torn_end.result read.1 c.in_ok-contents.ensures.small c.in_ok-contents.ensures.rest c.torn_end.ensures.nothing c.torn_end.ensures.end
