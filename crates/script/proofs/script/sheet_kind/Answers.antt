use Rattle.std.proofs.Common.{rules}
use Rattle.text.specs.Lines.{lines_of}
use Rattle.script.proofs.Firsts.{found-kind}
use Rattle.script.proofs.script.sheet_kind.Goals as goal

pub returns : goal.returns
returns c =
    rw (c.unwrap_or.ensures, ← c.new.ensures.0) (found-kind _ (λ s. lines_of s.rest.now) (λ line. line.bytes.now) (λ s t e. e) (λ s x t e. e.0) _ _ (λ x o q called. search rules) c.new.result c.find_map.result c.find_map.ensures.runs)
