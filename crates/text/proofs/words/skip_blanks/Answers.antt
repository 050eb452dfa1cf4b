use Rattle.text.proofs.Splits.{trimmed}
use Rattle.text.proofs.words.skip_blanks.Goals as goal

pub returns : goal.returns
returns c =
    let left = trimmed c.args.text.now c.trim_start_matches.result.now c.trim_start_matches.ensures.matches in
    record { words = left.0; dark = left.1 }
