-- How a line falls into words.
use Rattle.std.proofs.Common.{◌≡◌, ℕ, ◌<◌, Bool, true, false, List, [], ◌∷◌, ◌++◌, length, get_or, take, drop, IfSome, MatchOption, Some, None, Option, sym, refl, ap, ◌∙◌, ⊎_elim, arith, filter, take-append-drop}
use lib.Utf8.{scalar}
use Rattle.std.specs.Borrow.{Bor}
use Rattle.std.specs.Char.{char_set_contains}
use Rattle.std.specs.List.{All, slice_split}
use Rattle.std.specs.Option.{unwrap_or}
use Rattle.std.specs.Str.Pattern.{HasPassingCharAt, FindsBy, FindsPrefixBy, CutsPrefixes, IsTrimStartMatches, SplitsAroundMatch}
use Rattle.std.specs.Str.{NoCharPasses}
use Rattle.std.proofs.lemmas.Bool.{cases_Bool, cases_lt, both_ways}
use Rattle.std.proofs.lemmas.Bool.Decides.{nat_tests}
use Rattle.std.proofs.lemmas.List.Elements.{All-from_get_or}
use Rattle.std.proofs.lemmas.List.Splits.{slice_split_none, slice_split_at, slice_split-cons_yes}
use Rattle.std.proofs.lemmas.Str.{encode_ascii, NoCharPasses-byte, len_utf8_bounds}
use Rattle.text.specs.Words.{blank, written, words_of}

-- no byte of the text is blank
abbrev Dark : List ℕ → Type 0
Dark bs = All (λ c. blank c ≡ false) bs

-- the characters that part words
abbrev pub blanks : List ℕ
blanks = 32 ∷ 9 ∷ []

among-blank : (c : ℕ) → char_set_contains blanks c ≡ blank c
among-blank c = grind (arith, nat_tests)

-- a blank takes one byte
blank-small : (c : ℕ) → blank c ≡ true → c < 128
blank-small c h = grind (arith, nat_tests)

-- a text without a blank character is dark
dark-without : (bs : List ℕ) → NoCharPasses (char_set_contains blanks) bs → Dark bs
dark-without bs w =
    All-from_get_or (λ c. blank c ≡ false) bs 0 (λ i lt. ⊎_elim (λ b. absurd (both_ways _ (NoCharPasses-byte (char_set_contains blanks) bs i w lt (blank-small _ b)) (among-blank (get_or bs i 0) ∙ b))) (λ d. d) (cases_Bool (blank (get_or bs i 0))))

-- what the pattern of the blanks says of a text's front, and of its first match
abbrev Fronts : List ℕ → Option ℕ → Type 0
Fronts bs o = (k : ℕ → Bool) → ((c : ℕ) → char_set_contains blanks c ≡ k c) → FindsPrefixBy k bs o

abbrev Firsts : List ℕ → Option (ℕ × ℕ) → Type 0
Firsts bs o = (k : ℕ → Bool) → ((c : ℕ) → char_set_contains blanks c ≡ k c) → FindsBy k bs o

words-peeled : (s r ns : List ℕ) → CutsPrefixes Fronts s ns r → words_of r ≡ words_of s
words-peeled s r [] e = ap words_of e
words-peeled s r (n ∷ ns) (m, inner, front, after) =
    let such : HasPassingCharAt (char_set_contains blanks) m 0 n = front (char_set_contains blanks) (λ c. refl) in
    let c = such.0 in
    let b : blank c ≡ true = sym (among-blank c) ∙ such.1 in
    ap words_of after
    ∙ sym (ap words_of (such.2.split ∙ ap (λ l. l ++ drop n m) (encode_ascii c (blank-small c b))) ∙ ap (filter written) (slice_split-cons_yes blank c (drop n m) b))
    ∙ words-peeled s m ns inner

blank-scalar : (c : ℕ) → blank c ≡ true → scalar c ≡ true
blank-scalar c h = grind (arith, nat_tests)

trimmed-first : (bs : List ℕ) (o : Option ℕ) → Fronts bs o → IfSome o (λ n. n ≡ 0) → 0 < length bs → blank (get_or bs 0 0) ≡ false
trimmed-first [] o front none some = absurd (omega arith)
trimmed-first (c ∷ cs) None front none some =
    ⊎_elim
    (λ b. absurd (both_ways _ (front (char_set_contains blanks) (λ c. refl) c cs (blank-scalar c b) (ap (λ l. l ++ cs) (sym (encode_ascii c (blank-small c b))))) (among-blank c ∙ b)))
    (λ d. d)
    (cases_Bool (blank c))
trimmed-first (c ∷ cs) (Some n) front none some =
    let such : HasPassingCharAt (char_set_contains blanks) (c ∷ cs) 0 n = front (char_set_contains blanks) (λ c. refl) in
    absurd (omega (arith, (len_utf8_bounds such.0).0, such.2.ends, none))

-- what is left of a text without the blanks at its front
pub trimmed : (s r : List ℕ) → IsTrimStartMatches Fronts s r → (words_of r ≡ words_of s) × (0 < length r → blank (get_or r 0 0) ≡ false)
trimmed s r ((ns, some), (o, front, none)) = (words-peeled s r ns some, trimmed-first r o front none)

-- a text that is cut at its first blank
cut_at : (bs : List ℕ) (i j : ℕ) → Firsts bs (Some (i, j)) → (words_of bs ≡ filter written (take i bs ∷ slice_split blank (drop j bs))) × (blank (get_or bs 0 0) ≡ false → 0 < i)
cut_at bs i j first =
    let found : FindsBy (char_set_contains blanks) bs (Some (i, j)) = first (char_set_contains blanks) (λ c. refl) in
    let c = found.1.0 in
    let b : blank c ≡ true = sym (among-blank c) ∙ found.1.1 in (
      ap words_of (sym (take-append-drop i bs) ∙ ap (λ l. take i bs ++ l) (found.1.2.split ∙ ap (λ l. l ++ drop j bs) (encode_ascii c (blank-small c b))))
          ∙ ap (filter written) (slice_split_at blank (take i bs) c (drop j bs) (dark-without (take i bs) found.0) b),
      λ dark. ⊎_elim (λ lt. lt) (λ le. let none : i ≡ 0 = omega arith in absurd (both_ways _ dark (ap blank (ap (λ k. get_or bs k 0) (sym none) ∙ found.1.2.byte (blank-small c b)) ∙ b))) (cases_lt 0 i),
    )

-- The text up to its first blank, and what follows that; all of the text where it has none.
pub cut-or : (text : List ℕ) (found : Option (Bor (List ℕ) × Bor (List ℕ))) (whole : Bor (List ℕ) × Bor (List ℕ)) → MatchOption found (Firsts text None) (λ p. SplitsAroundMatch Firsts text p.0.now p.1.now) → whole.0.now ≡ text → whole.1.now ≡ [] → let parts = unwrap_or found whole in (words_of text ≡ filter written (parts.0.now ∷ slice_split blank parts.1.now)) × (0 < length text → blank (get_or text 0 0) ≡ false → 0 < length parts.0.now)
cut-or text None whole none all rest =
    (rw (all, rest) (ap (filter written) (slice_split_none blank text (dark-without text (none (char_set_contains blanks) (λ c. refl))))), λ some _. rw all some)
cut-or text (Some p) whole h all rest =
    let cut = cut_at text h.0 h.1 h.2 in
    (rw (h.3, h.4) cut.0, λ _ dark. omega (arith, cut.1 dark, h.6))
