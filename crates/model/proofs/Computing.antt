-- What the examples compute with: to open one of these names is to open every definition on its line. Assumes nothing.
use mathlib.Core.List.{flat_map}
use Rattle.model.specs.Lists.{up_from, keep, any_of, all_of, count_of, first_of, same_list, mask_below, count_below}
use Rattle.model.specs.Pattern.{label_fits, figure_fits}
use Rattle.model.specs.Embeddings.{child_test, climbs, below_test, edge_test, reaches, candidate, extend, embeddings, is_result, is_path, path_mask, path_count, figures_fit, figured_embeddings}
use Rattle.model.specs.Fitting.{parent_rule, strong_children}
use Rattle.model.specs.Canonical.{chain_in, chain, append_chain, lay_node, lay_nodes, chains, has_child_on, add_missing, add_all, fill_node, fill_from, canonical_spots, canonical, own_nodes, own_result, passes, covered, own_figure, spot_records}
use Rattle.model.specs.Verdict.{step, run, conclude, judge, verdict, tried_of}
use Rattle.model.specs.Bytes.{field, field_bytes, bytes_of, records_at, section, member_at, set_of, case_of, is_whole_case, section_fields, case_fields, encode_case, encode_document, encode_counted, written_at_front}
use Rattle.model.specs.Questions.{limit_in_range, buffer_large_enough, case_whole, counts_in_range, set_in_range, summary_record_kept, summary_kept, alike, siblings_differ, pattern_record_kept, pattern_kept, patterns_kept, positions_once, positions_kept, caller_in_range, tally_in_range, pattern_given, refusal, case_questions, verdict_refusal, paths_refusal, figure_in_range, pattern_figures, figures_kept}
use Rattle.model.specs.Calls.{kind_of, shown, verdict_accepted, verdict_refused, verdict_call, tallied_call, paths_accepted, paths_refused, paths_call}
use Rattle.model.specs.Text.{decimal_in, decimal, number, numbers, line, node_line, node_lines, answer_line, first_lines, shown_text, verdict_text, printed}

unfoldable pub lists : Unit {0}
unfolding flat_map up_from keep any_of all_of count_of first_of same_list mask_below count_below
lists = tt

unfoldable pub embedding : Unit {0}
unfolding lists label_fits figure_fits child_test climbs below_test edge_test reaches candidate extend embeddings figures_fit figured_embeddings is_result is_path path_mask path_count
embedding = tt

unfoldable pub layout : Unit {0}
unfolding embedding strong_children chain_in chain append_chain lay_node lay_nodes chains has_child_on add_missing add_all fill_node fill_from canonical_spots own_nodes own_figure spot_records canonical
layout = tt

unfoldable pub judging : Unit {0}
unfolding layout own_result passes covered step run conclude judge verdict tried_of
judging = tt

unfoldable pub bytes : Unit {0}
unfolding field field_bytes bytes_of records_at section member_at set_of case_of is_whole_case section_fields case_fields encode_case encode_document encode_counted written_at_front
bytes = tt

unfoldable pub rules : Unit {0}
unfolding parent_rule summary_record_kept summary_kept alike siblings_differ pattern_record_kept pattern_kept patterns_kept figure_in_range pattern_figures figures_kept positions_once positions_kept
rules = tt

unfoldable pub questions : Unit {0}
unfolding bytes rules limit_in_range buffer_large_enough case_whole counts_in_range set_in_range caller_in_range tally_in_range pattern_given refusal case_questions verdict_refusal paths_refusal
questions = tt

unfoldable pub calls : Unit {0}
unfolding judging questions kind_of shown verdict_accepted verdict_refused verdict_call tallied_call paths_accepted paths_refused paths_call
calls = tt

unfoldable pub printing : Unit {0}
unfolding calls decimal_in decimal number numbers line node_line node_lines answer_line first_lines shown_text verdict_text printed
printing = tt
