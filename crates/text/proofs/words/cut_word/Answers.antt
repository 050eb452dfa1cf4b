use Rattle.std.proofs.Common.{refl}
use Rattle.text.proofs.Splits.{cut-or}
use Rattle.text.proofs.words.cut_word.Goals as goal

pub returns : goal.returns
returns c = rw c.unwrap_or.ensures (let cut = cut-or c.args.text.now c.split_once.result _ c.split_once.ensures.cases refl refl in record { words = cut.0; some = cut.1 })
