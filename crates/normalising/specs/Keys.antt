-- What is written of a node as one number.
use Rattle.std.specs.Prelude.{ℕ, ◌+◌, ◌*◌, ◌/◌, ◌%◌}
use Rattle.model.specs.Normal.{Entry}

-- the entry that a number holds: 16 bits for label, edge and figure, 8 for a position; the depth stands highest
abbrev pub entry_of : ℕ → Entry
entry_of k =
    record {
      depth = k / 72_057_594_037_927_936;
      label = k / 1_099_511_627_776 % 65_536;
      edge = k / 16_777_216 % 65_536;
      position = k / 65_536 % 256;
      figure = k % 65_536;
    }

-- and the number of its parts
abbrev pub key_of : Entry → ℕ
key_of e = e.depth * 72_057_594_037_927_936 + e.label * 1_099_511_627_776 + e.edge * 16_777_216 + e.position * 65_536 + e.figure
