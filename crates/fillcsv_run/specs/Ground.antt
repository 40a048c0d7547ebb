-- What rules are learned over.
use Rattle.std.specs.Prelude.{ℕ, min}
use Rattle.fill_tree.specs.declared.profile.Profile.{Profile}
use Rattle.fill_tree.specs.declared.profile.TheConstants.Profile as profile
use Rattle.fill_tree.specs.declared.user.Settings.{Settings}
use Rattle.fill_tree.specs.declared.user.Constants.TheVariants.{Any}
use Rattle.fill_space.specs.declared.ground.Ground.{Ground}
use Rattle.fillcsv_options.specs.declared.asked.Depth.{Depth}
use Rattle.fillcsv_options.specs.declared.asked.Depth.TheVariants as depths
use Rattle.fillcsv_options.specs.declared.asked.ProfileName.{ProfileName}
use Rattle.fillcsv_options.specs.declared.asked.ProfileName.TheVariants as names
use Rattle.fillcsv_options.specs.Words.{AskedData}
use Rattle.fillcsv_run.specs.Opening.{SheetRead}

-- the profile of a name
abbrev pub profile_of : ProfileName → Profile
profile_of names.First = profile.FIRST
profile_of names.Second = profile.SECOND
profile_of names.Third = profile.THIRD

-- how many lookups may stand inside each other
abbrev pub depth_of : Depth → ℕ
depth_of depths.One = 1
depth_of depths.Two = 2
depth_of depths.Three = 3

-- the settings that words ask for: all constants, and lookups no deeper than the profile allows
abbrev pub settings_of : ProfileName → Depth → Settings
settings_of called depth = record { depth = min (depth_of depth) (profile_of called).depth; constants = Any; profile = profile_of called }

-- what rules are learned over
abbrev pub ground_of : AskedData → SheetRead → Ground
ground_of asked read = record { settings = settings_of asked.profile asked.depth; sheet = read.sheet; tables = read.tables }
