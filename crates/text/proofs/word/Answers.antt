-- `word` meets its contract: the library's bytes of a word are these. Assumes nothing.
use Rattle.std.proofs.Common.{◌∙◌}
use Rattle.text.proofs.Digits.{word_bytes}
use Rattle.text.proofs.word.Goals as goal

pub returns : goal.returns
returns c = rw (c.to_le_bytes.ensures ∙ word_bytes c.args.word) at c.hex.ensures
