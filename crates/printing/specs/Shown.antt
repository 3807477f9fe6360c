-- What an answer buffer shows after "not included", for a reader of its bytes.
use Rattle.std.specs.Prelude.{ℕ, ◌+◌, ◌*◌, ◌≤◌, List, length, Result, Ok, Err}
use Rattle.model.specs.Limits.{document_width}
use Rattle.model.specs.Bytes.{field, section_end, document_of, list_of, shown_section, shown_list, WholeSection}
use Rattle.model.specs.Text.{ascii, first_lines, shown_text, refused_text}
use Rattle.questions.specs.Refusal.{number_of}
use Rattle.questions.specs.declared.refusal.Refusal.{Refusal}
use Rattle.containment.specs.declared.Containment.{Containment}
use Rattle.containment.specs.declared.Containment.TheVariants.{Contained, NotContained, Stopped}

-- the section and the list stand inside the buffer, and the section is whole
pub record ShownWhole (buffer : List ℕ) : Type 0 where
  pub inside : 2 * (section_end document_width buffer 0 + 1 + field buffer (section_end document_width buffer 0)) ≤ length buffer
  pub whole : WholeSection document_width (shown_section buffer) 0

-- the text of "not included" that shows them
abbrev pub text_of : ℕ → List ℕ → List ℕ
text_of tried buffer = shown_text tried (document_of (shown_section buffer)) (list_of (shown_list buffer))

-- the text of an answer and a buffer
abbrev pub verdict_text : Containment → List ℕ → List ℕ
verdict_text (Contained tried) buffer = first_lines (ascii "included") tried
verdict_text (NotContained tried) buffer = text_of tried buffer
verdict_text (Stopped tried) buffer = first_lines (ascii "stopped") tried

abbrev pub told_text : Result Containment Refusal → List ℕ → List ℕ
told_text (Ok verdict) buffer = verdict_text verdict buffer
told_text (Err refusal) buffer = refused_text (number_of refusal)

-- "not included" comes with a buffer that shows something
abbrev pub Shows : Containment → List ℕ → Type 0
Shows (Contained tried) buffer = Unit {0}
Shows (NotContained tried) buffer = ShownWhole buffer
Shows (Stopped tried) buffer = Unit {0}

abbrev pub Tellable : Result Containment Refusal → List ℕ → Type 0
Tellable (Ok verdict) buffer = Shows verdict buffer
Tellable (Err refusal) buffer = Unit {0}
