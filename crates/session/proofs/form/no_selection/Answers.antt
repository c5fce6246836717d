-- `no_selection` compares the mask with the bit past the last field.
use Rattle.session.specs.Form.{no_selection-code}
use Rattle.session.proofs.form.no_selection.Goals as goal

pub returns : goal.returns
returns c = rw c.one_bit.ensures (no_selection-code _ _)
