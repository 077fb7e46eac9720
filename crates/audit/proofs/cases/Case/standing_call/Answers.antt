use Rattle.std.proofs.Common.{◌≡◌, map, rules}
use borrow.Author.Tests.{tests}
use Rattle.std.specs.{Iterator.Adapters.zip_first, Iterator.Adapters.zip_second, Slice.Iter.iter_rest}
use Rattle.std.proofs.lemmas.Slice.Zip.{Zip-more, either_empty_from_Zip}
use Rattle.runs.specs.Reading.{request_of}
use Rattle.audit.specs.Reading.{case_in}
use Rattle.audit.proofs.Stands.{leads_none, leads_accepted, leads_other, first_leads}
use Rattle.audit.proofs.cases.Case.standing_call.Goals as goal

pub loop-call-init : goal.loop-call-init
loop-call-init g c =
    let one : iter_rest (zip_first c.into_iter-call-iterator.result) ≡ c.args.self.now.calls.now = search rules in
    let other : iter_rest (zip_second c.into_iter-call-iterator.result) ≡ c.args.answers.now = search rules in
    first_leads (case_in (g.F.ContractForm.meaning c.args.self.now.form.now) c.args.self.now) (g.met.F.ContractForm.keeps c.args.self.now.form.now) c.args.answers.now c.requires c.args.hour (λ t. map request_of (one t)) other

pub loop-call-preserved-then-is_accepted : goal.loop-call-preserved-then-is_accepted
loop-call-preserved-then-is_accepted g c =
    let more = Zip-more c.loop-call.call-iterator c.next.new.self c.next.result (c.in-Some.call, c.in-Some.answer) c.in-Some.is c.next.ensures.steps in
    leads_accepted c.in-Some.call.now c.in-Some.answer.now c.loop-call.invariant more.0 more.1 (search (rules, tests)) c.posting_left-standing.ensures

pub loop-call-preserved : goal.loop-call-preserved
loop-call-preserved g c =
    let more = Zip-more c.loop-call.call-iterator c.next.new.self c.next.result (c.in-Some.call, c.in-Some.answer) c.in-Some.is c.next.ensures.steps in
    leads_other c.in-Some.call.now c.in-Some.answer.now c.loop-call.invariant more.0 more.1 (search (rules, tests))

pub returns : goal.returns
returns g c = leads_none _ _ _ (either_empty_from_Zip _ c.next.new.self _ c.in-None.is c.next.ensures.steps) c.loop-call.invariant
