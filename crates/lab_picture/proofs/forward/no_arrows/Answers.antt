use Rattle.std.proofs.Common.{[]}
use Rattle.lab_picture.proofs.forward.no_arrows.Goals as goal

pub returns : goal.returns
returns c = λ h. record { found = []; least = tt; arrows_are = c.new.ensures.items }
