-- The rules before those of the images' texts and bytes.
use Rattle.std.specs.Prelude.{List, [], ◌∷◌}
use Rattle.dm_boot.specs.declared.rules.BootRule.{BootRule}
use Rattle.dm_boot.specs.declared.rules.BootRule.TheVariants.{TopKeys, Settings, MachineCount, MachineKeys, MachineRoom, ImageCount, ImageKeys, ImageName, ImageBlocks}

-- these rules, in the order in which they are tested
abbrev pub before_images : List BootRule
before_images = TopKeys ∷ Settings ∷ MachineCount ∷ MachineKeys ∷ MachineRoom ∷ ImageCount ∷ ImageKeys ∷ ImageName ∷ ImageBlocks ∷ []
