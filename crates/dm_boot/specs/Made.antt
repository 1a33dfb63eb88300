-- What becomes of one image.
use Rattle.std.specs.Prelude.{◌≡◌, true, false}
use Rattle.toml.specs.Data.{Data}
use Rattle.dm_boot.specs.declared.images.Assembled.{Assembled}
use Rattle.dm_boot.specs.declared.images.Assembled.TheVariants.{Image, Fault, NoMemory}
use Rattle.dm_boot.specs.Build.{image_of}
use Rattle.dm_boot.specs.Rules.{assembles}

-- the image of a table where the assembler takes its text
abbrev pub IsMade : Data → Assembled → Type 0
IsMade t (Image image) = (assembles t ≡ true) × (image ≡ image_of t)
IsMade t Fault = assembles t ≡ false
IsMade t (NoMemory _) = Unit {0}
