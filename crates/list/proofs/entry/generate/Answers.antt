-- `list::entry::generate` meets its contract: each way out is a law of `Entering`.
use Rattle.graph.proofs.Lending.{grown_slices}
use Rattle.list.proofs.Entering.{input_refused, good_nested, back_asks, nodes-lack, list-lacks, list_delivered}
use Rattle.list.proofs.entry.generate.Goals as goal

pub returns-in_err-input_refusal-clause-generates : goal.returns-in_err-input_refusal-clause-generates
returns-in_err-input_refusal-clause-generates c =
    input_refused c.args.table.now _ _ c.args.room.now c.reading.ensures c.in_err-input_refusal.ensures _ c.from_residual.ensures.1

pub fill-filled-requires : goal.fill-filled-requires
fill-filled-requires c = good_nested c.args.table.now _ _ c.args.room.now c.reading.ensures c.in_ok-input_refusal.ensures

pub give_back-requires : goal.give_back-requires
give_back-requires c = back_asks c.args.table.now _ _ c.args.room.now c.reading.ensures c.in_ok-input_refusal.ensures (grown_slices c.fill-filled.ensures.same)

pub returns-in_default-clause-generates : goal.returns-in_default-clause-generates
returns-in_default-clause-generates c =
    nodes-lack c.args.table.now _ _ c.args.room.now c.reading.ensures c.in_ok-input_refusal.ensures c.fill-filled.new.room (c.fill.ensures.after (λ y e. e)) c.give_back.ensures.given c.in_default.ensures.filled
    (c.fill-in_default.ensures.after (λ y e. e)) _ c.into.ensures.0 c.into.ensures.1

pub returns-then-size-length-clause-generates : goal.returns-then-size-length-clause-generates
returns-then-size-length-clause-generates c =
    list-lacks c.args.table.now _ _ c.args.room.now c.reading.ensures c.in_ok-input_refusal.ensures c.fill-filled.new.room (c.fill.ensures.after (λ y e. e)) c.give_back.ensures.given c.in-Some.length c.in-Some.ensures.filled c.if-size-length.true
    (c.fill-then-size-length.ensures.after (λ y e. e)) _ c.returning.ensures.refusal c.returning.ensures.returned

pub returns-clause-generates : goal.returns-clause-generates
returns-clause-generates c =
    list_delivered c.args.table.now _ _ c.args.room.now c.reading.ensures c.in_ok-input_refusal.ensures c.fill-filled.new.room (c.fill.ensures.after (λ y e. e)) c.give_back.ensures.given c.in-Some.length c.in-Some.ensures.filled c.if-size-length.false
