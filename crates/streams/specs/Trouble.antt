-- What a program tells of trouble.
use Rattle.std.specs.Prelude.{ℕ, List, codes}
use Rattle.streams.specs.declared.trouble.Trouble.{Trouble}
use Rattle.streams.specs.declared.trouble.Trouble.TheVariants.{Unreadable, Unwritable}

abbrev pub message : Trouble → List ℕ
message Unreadable = codes "the input can't be read"
message Unwritable = codes "the answer can't be written"
