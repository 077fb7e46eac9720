use Rattle.std.proofs.Common.{refl}
use Rattle.packets.specs.Numbers.{spelled, spelled_in}
use Rattle.worked.proofs.worked_figures.Goals as goal

pub returns : goal.returns
unfolding spelled spelled_in
returns c = refl
