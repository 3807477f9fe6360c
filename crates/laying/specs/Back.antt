-- An array with the records at its front is given back by them, since nothing stands behind them. Assumes nothing.
use Rattle.std.specs.Prelude.{ℕ, ◌≡◌, ◌+◌, ◌≤◌, List, map, length, replicate}
use mathlib.Core.Path.{sym, ap, ◌∙◌}
use native.Mathlib.Omega.{arith}
use lib.ListN.{take, drop, length-map, length-take, length-drop, length-append, length-replicate}
use Rattle.model.specs.Limits.{min_table}
use Rattle.model.specs.Calls.{LaidRecord}
use Rattle.model.specs.Bytes.{written_at_front}
use Rattle.laying.specs.declared.laid.NodeRecord.{NodeRecord}
use Rattle.laying.specs.declared.laid.Laid.TheInside.{Inside}
use Rattle.laying.specs.Records.{node_record, record_of, blank_nodes, at_front}
use Rattle.laying.specs.Array.{records_in, IsFilled}

-- what is laid out, from its records
abbrev pub inside_of : List LaidRecord → Inside
inside_of rs = record { count = length rs; nodes = at_front rs }

-- an array with records at its front is long enough
long : (rs : List LaidRecord) → min_table ≤ length (at_front rs)
unfolding at_front blank_nodes written_at_front
long rs =
    let w : List NodeRecord = map node_record rs in
    let size : length blank_nodes ≡ min_table = length-replicate min_table (node_record (record { parent = 0; summary_node = 0; label = 0; figure = 0 })) in
    omega (arith, size, length-append w (drop (length w) blank_nodes), length-drop (length w) blank_nodes)

pub given_back : (a : Inside) → IsFilled a.count a.nodes → inside_of (records_in a.count a.nodes) ≡ a
given_back a h = λ k. record { count = counted k; nodes = sym h.front k }
  where
    counted : length (records_in a.count a.nodes) ≡ a.count
    counted =
        let few = h.few in
        let enough = long (records_in a.count a.nodes) in
        let size : length a.nodes ≡ length (at_front (records_in a.count a.nodes)) = ap (λ (l : List NodeRecord). length l) h.front in
        omega (arith, length-map (take a.count a.nodes) record_of, length-take a.count a.nodes)
