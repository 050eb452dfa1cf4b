use Rattle.std.proofs.Common.{◌≡◌, ◌+◌, length, Some, None, rules, tests, arith}
use Rattle.std.proofs.lemmas.Iterator.{IsFirst-from_position, YieldsList-from_slice}
use Rattle.std.proofs.lemmas.Slice.{between_to_end}
use Rattle.text.proofs.Feeds.{cut-first, cut-last}
use Rattle.text.proofs.lines.cut_line.Goals as goal

pub returns-in-Some-clause-lines : goal.returns-in-Some-clause-lines
returns-in-Some-clause-lines c =
    let bytes = c.args.bytes.now in
    let found = IsFirst-from_position _ _ (Some c.in-Some.len) (λ b. b ≡ 10) (λ b. b ≡ 10 → ⊥) c.in-Some.ensures.ran (YieldsList-from_slice bytes cc) (λ x q k. search (rules, tests)) (λ x q k. search (rules, tests)) in
    λ some. rw (c.without_return.ensures, between_to_end bytes (c.in-Some.len + 1) (length bytes) (omega arith)) (cut-first bytes c.in-Some.len found.0 (found.1 0) (λ k lt. found.2 k 0 (omega arith) lt))

pub returns-in-None-clause-lines : goal.returns-in-None-clause-lines
returns-in-None-clause-lines c =
    let bytes = c.args.bytes.now in
    let none = IsFirst-from_position _ _ None (λ b. b ≡ 10) (λ b. b ≡ 10 → ⊥) c.in-None.ensures.ran (YieldsList-from_slice bytes cc) (λ x q k. search (rules, tests)) (λ x q k. search (rules, tests)) in
    λ some. cut-last bytes some (λ k lt. none k 0 (omega arith) lt)
