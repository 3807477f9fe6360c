-- A number is given back by the entry that it holds. Assumes nothing.
use Rattle.std.specs.Prelude.{ℕ, ◌≡◌, ◌+◌, ◌*◌, ◌/◌, ◌%◌}
use mathlib.Core.Path.{sym}
use native.Mathlib.Omega.{arith}
use Rattle.model.specs.Normal.{Entry}
use Rattle.normalising.specs.declared.entry.Entry.TheInside.{Inside}
use Rattle.normalising.specs.Keys.{entry_of, key_of}

-- an entry as one number
abbrev pub inside_of : Entry → Inside
inside_of e = record { key = key_of e }

-- a number is the sum of its parts, one after another
joined_parts : (x u v w d l g p f : ℕ) → x ≡ u * 65_536 + f → u ≡ v * 256 + p → v ≡ w * 65_536 + g → w ≡ d * 65_536 + l
    → x ≡ d * 72_057_594_037_927_936 + l * 1_099_511_627_776 + g * 16_777_216 + p * 65_536 + f
joined_parts x u v w d l g p f a b c e = omega arith

pub key_parts : (x : ℕ) → x ≡ key_of (entry_of x)
key_parts x =
    let figure : x ≡ x / 65_536 * 65_536 + x % 65_536 = omega arith in
    let position : x / 65_536 ≡ x / 16_777_216 * 256 + x / 65_536 % 256 = omega arith in
    let edge : x / 16_777_216 ≡ x / 1_099_511_627_776 * 65_536 + x / 16_777_216 % 65_536 = omega arith in
    let label : x / 1_099_511_627_776 ≡ x / 72_057_594_037_927_936 * 65_536 + x / 1_099_511_627_776 % 65_536 = omega arith in
    joined_parts _ _ _ _ _ _ _ _ _ figure position edge label

pub given_back : (a : Inside) → inside_of (entry_of a.key) ≡ a
given_back a = λ k. record { key = sym (key_parts a.key) k }
