-- What holds of the parts of a system.
use Rattle.std.specs.Prelude.{◌≡◌, ℕ, ◌≤◌, slice_get}
use Rattle.std.specs.declared.option.Option.TheVariants.{Some}
use Rattle.dm_link.specs.declared.Link.{Link}
use Rattle.dm_onekernel.specs.declared.boot.Boot.{Boot}
use Rattle.dm_onekernel.specs.declared.boot.BootProcess.{BootProcess}
use Rattle.dm_onekernel.specs.Boot.{IsValid}
use Rattle.dm_parts.specs.Parts.{joins, parts_of}

-- a link of the process at a place joins it with another
pub record Joins (b : Boot) (place other : ℕ) : Type 0 where
  pub process : BootProcess
  pub holder : slice_get b.processes place ≡ Some process
  pub slot : ℕ
  pub link : Link
  pub held : slice_get process.links slot ≡ Some link
  pub joins : joins b link ≡ Some other

-- in whatever way places have sides: each link keeps to one
abbrev pub EachKeeps : Boot → (ℕ → ℕ) → Type 0
EachKeeps b side = (place other : ℕ) → Joins b place other → side place ≡ side other

-- two places are of one part
pub record SamePart (b : Boot) (i j : ℕ) : Type 0 where
  pub number : ℕ
  pub first : slice_get (parts_of b) i ≡ Some number
  pub second : slice_get (parts_of b) j ≡ Some number

abbrev pub LinksKeepToParts : Type 0
LinksKeepToParts = (b : Boot) (place other : ℕ) → IsValid b → Joins b place other → SamePart b place other

abbrev pub PartsAreFinest : Type 0
PartsAreFinest = (b : Boot) (side : ℕ → ℕ) (i j : ℕ) → EachKeeps b side → SamePart b i j → side i ≡ side j

abbrev pub FirstNames : Type 0
FirstNames = (b : Boot) (i number : ℕ) → slice_get (parts_of b) i ≡ Some number → (number ≤ i) × (slice_get (parts_of b) number ≡ Some number)
