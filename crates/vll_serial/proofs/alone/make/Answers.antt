use Rattle.std.proofs.Common.{◌<◌, ◌∙◌, Option, All, sym, ap, subst}
use Rattle.vll_record.specs.declared.claim.Claim.{Claim}
use Rattle.vll_proc.specs.declared.syntax.Proc.{Proc}
use Rattle.vll_proc.specs.Headline.Serial.{applied, applied_at}
use Rattle.vll_proc.specs.Made.{IsCallOf}
use Rattle.vll_proc.proofs.Kept.{length-applied, slice_index-applied}
use Rattle.vll_check.proofs.Fitting.{ready_well}
use Rattle.vll_core.proofs.AtWork.{procedure_ready}
use Rattle.vll_serial.proofs.alone.make.Goals as goal

pub frame_of-frame-requires : goal.frame_of-frame-requires
frame_of-frame-requires c =
    subst (λ n. All (λ (d : Claim). d.id < n) c.args.call.now.claims) c.requires.records
    (ready_well c.args.library.now c.args.call.now c.proc.ensures.catalog c.requires.ready).within

pub put_back-requires : goal.put_back-requires
put_back-requires c =
    subst (λ n. All (λ (d : Claim). d.id < n) c.args.call.now.claims) c.requires.records
    (ready_well c.args.library.now c.args.call.now c.proc.ensures.catalog c.requires.ready).within

pub run-reply-requires-clause-formed : goal.run-reply-requires-clause-formed
run-reply-requires-clause-formed c =
    (procedure_ready c.args.library.now c.args.call.now c.in-Some.procedure.now c.proc.ensures.catalog c.requires.ready (sym c.in-Some.ensures.procedure)).0

pub run-reply-requires-clause-made : goal.run-reply-requires-clause-made
run-reply-requires-clause-made c =
    (c.args.library.now.records, (procedure_ready c.args.library.now c.args.call.now c.in-Some.procedure.now c.proc.ensures.catalog c.requires.ready (sym c.in-Some.ensures.procedure)).1)

pub returns-clause-reply : goal.returns-clause-reply
returns-clause-reply c =
    let p = c.in-Some.procedure.now in
    let call = c.args.call.now in
    let records = c.args.records.now in
    let called = procedure_ready c.args.library.now call p c.proc.ensures.catalog c.requires.ready (sym c.in-Some.ensures.procedure) in
    let made = subst (λ n. IsCallOf n p call) c.requires.records called.1 in
    c.run-reply.ensures.reply records made c.frame_of-frame.ensures ∙ ap (λ (o : Option Proc). (applied_at o call records).reply) c.in-Some.ensures.procedure

-- the records that are claimed have their new values, and a call changes no others
pub returns-clause-records : goal.returns-clause-records
returns-clause-records c =
    let p = c.in-Some.procedure.now in
    let call = c.args.call.now in
    let records = c.args.records.now in
    let called = procedure_ready c.args.library.now call p c.proc.ensures.catalog c.requires.ready (sym c.in-Some.ensures.procedure) in
    let made = subst (λ n. IsCallOf n p call) c.requires.records called.1 in
    let holds = c.run-reply.ensures.cells records made c.frame_of-frame.ensures in
    c.put_back.ensures (applied p call records).records holds
    (record { number = length-applied p call records; others = λ r none. slice_index-applied p call records called.0 made r (λ is. absurd (cc (sym none ∙ is))) })
    ∙ ap (λ (o : Option Proc). (applied_at o call records).records) c.in-Some.ensures.procedure
