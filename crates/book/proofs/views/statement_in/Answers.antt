use Rattle.std.proofs.Common.{◌-◌, ◌*◌, ◌<◌, ap, arith}
use Rattle.book.specs.{Lent.memory_seen, Months.figures_in}
use Rattle.calendar.specs.Limits.{hours_of}
use Rattle.book.proofs.{Columns.month_within, Tables.memory_fits}
use Rattle.book.proofs.views.statement_in.Goals as goal

pub month_peak-peak-requires-clause-within : goal.month_peak-peak-requires-clause-within
month_peak-peak-requires-clause-within g c =
    let f = figures_in c.args.month in
    let known = memory_fits (g.F.ContractForm.meaning c.args.form.now) f (memory_seen c.args.view.now) c.in_ok-check.ensures in
    let i = c.args.agent - 1 in
    let inside : i < f.agents = omega arith in
    omega (arith, known.sizes.entries_long, month_within (hours_of f.days) f.agents i inside, c.hours-hours.ensures, ap (λ hours. i * hours) c.hours-hours.ensures)
