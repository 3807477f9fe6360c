-- `striking::shorten::put_record` meets its contract: the parent's field and the four after it are those of the record. Assumes nothing.
use Rattle.std.proofs.Common.{rules, ap, ◌∙◌}
use Rattle.model.specs.Pattern.{Pattern, pattern_parent}
use Rattle.striking.proofs.RecordLaws.{parent-small, record-room, record-stored}
use Rattle.striking.proofs.shorten.put_record.Goals as goal

pub overflow_cast-parent : goal.overflow_cast-parent
overflow_cast-parent c =
    record { fits = parent-small _ _ _ c.requires.0 c.requires.1 (c.parent.ensures ∙ ap (λ (P : Pattern). pattern_parent P c.args.j) c.new.ensures) c.lowered-parent.ensures }

pub copy_fields-requires : goal.copy_fields-requires
copy_fields-requires c = (record-room _ _ c.requires.0 c.requires.1, search rules)

pub returns : goal.returns
returns c =
    record-stored _ _ _ _ _ c.requires.0 c.requires.1 (c.parent.ensures ∙ ap (λ (P : Pattern). pattern_parent P c.args.j) c.new.ensures) c.lowered-parent.ensures c.put_field.ensures c.copy_fields.ensures
