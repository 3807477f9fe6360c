-- The parts of the buffer that are lent are the section and the list. Assumes nothing.
use Rattle.printing.proofs.ShownLaws.{list_inside, section-whole, section-size, text-room, text-put}
use Rattle.printing.proofs.shown_text.Goals as goal

pub slice_bounds-shown-end : goal.slice_bounds-shown-end
slice_bounds-shown-end c = section-size _ c.section_end-end.ensures c.field.ensures.0 c.requires.whole

pub slice_bounds-shown-end-2 : goal.slice_bounds-shown-end-2
slice_bounds-shown-end-2 c = list_inside _ c.section_end-end.ensures c.field.ensures.0 c.requires.whole

pub shown-requires : goal.shown-requires
shown-requires c = record {
  whole = section-whole _ c.section_end-end.ensures c.field.ensures.0 c.requires.whole;
  room = text-room _ c.section_end-end.ensures c.field.ensures.0 _ c.requires.room;
}

pub returns : goal.returns
returns c = text-put _ c.section_end-end.ensures c.field.ensures.0 _ c.shown.ensures
