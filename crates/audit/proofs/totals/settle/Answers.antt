use Rattle.std.proofs.Common.{◌≡◌, refl, ◌∙◌, rules, w64, to_z, of_z}
use Rattle.std.proofs.lemmas.Int.{wraps}
use Rattle.runs.specs.Lent.{memory_in}
use Rattle.audit.specs.{declared.totals.Totals.Totals, Cases.Case, Cases.case_of}
use Rattle.audit.proofs.Audited.{Opens, law_of_one}
use Rattle.audit.proofs.totals.settle.Goals as goal

pub residue-requires-clause-first : goal.residue-requires-clause-first
residue-requires-clause-first g c = record { memory = memory_in c.args.lent.now; agents = refl; opens = search rules; told = c.settle_calls-settled.ensures.told }

pub returns-clause-settled : goal.returns-clause-settled
returns-clause-settled g c =
    let case : Case = case_of (g.F.ContractForm.meaning c.args.form.now) c.args.figures c.args.lent.now.agents.now c.args.calls.now in
    let lent : Opens case (memory_in c.args.lent.now) = record { keeps = g.met.F.ContractForm.keeps c.args.form.now; agents = refl; opens = search rules } in
    let totals : Totals = record { balances = to_z w64 (of_z w64 c.settle_calls-settled.result.balances); residue = to_z w64 (of_z w64 c.residue.result) } in
    let sum : totals.balances ≡ c.settle_calls-settled.result.balances = search (rules, wraps) in
    let residue : totals.residue ≡ c.residue.result = search (rules, wraps) in
    law_of_one lent _ _ totals (record { told = c.settle_calls-settled.ensures.told; stated = c.settle_calls-settled.ensures.came.stated })
    (sum ∙ c.settle_calls-settled.ensures.came.balances) (residue ∙ c.residue.ensures)
