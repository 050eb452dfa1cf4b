-- What the words of a line are read as. A reader takes words from the front, and leaves those that follow.
use Rattle.std.specs.Prelude.{◌≡◌, ℕ, true, false, cond, ◌&&◌, List, [], ◌∷◌, Some, None, Option, Result, MatchResult, nat_le}
use Rattle.std.specs.Str.{bytes_eq}
use Rattle.text.specs.declared.words.Words.{Words}
use Rattle.text.specs.Numbers.{numeral, value_of}
use Rattle.text.specs.Words.{words_of}

abbrev pub Line : Type 0
Line = List (List ℕ)

-- the words that are left of a line
abbrev pub left : Words → Line
left words = words_of words.rest.now

-- what is read, and the words that follow; nothing where the words are faulty
abbrev pub Read : Type 0 → Type 0
Read A = Option (A × Line)

abbrev pub and_then : {A B : Type 0} → Read A → (A → Line → Read B) → Read B
and_then None next = None
and_then (Some p) next = next p.0 p.1

-- the answer is what the reader gives for the words before, and those after are the words that it leaves
abbrev pub Reads : {A E : Type 0} → (Line → Read A) → Words → Result A E → Words → Type 0
Reads reader before r after =
    MatchResult r (λ a. reader (left before) ≡ Some (a, left after)) (λ _. reader (left before) ≡ None)

-- a number of at most `most`
abbrev pub number_up_to : ℕ → Line → Read ℕ
number_up_to most [] = None
number_up_to most (word ∷ words) = cond (numeral word && nat_le (value_of word) most) (Some (value_of word, words)) None

abbrev pub byte_of : Line → Read ℕ
byte_of words = number_up_to 255 words

abbrev pub edge_of : Line → Read ℕ
edge_of words = number_up_to 65535 words

abbrev pub count_of : Line → Read ℕ
count_of words = number_up_to 4294967295 words

-- A reader takes a word in digits alone as another, `gives`, reads it, and no other word. So much is known of the
-- numbers of any type.
pub record ReadsNumerals {A E : Type 0} (gives : List ℕ → Result A E → Type 0) (reader : Line → Read A) : Type 0 where
  pub none : reader [] ≡ None
  pub other : (word : List ℕ) (words : Line) → numeral word ≡ false → reader (word ∷ words) ≡ None
  pub given : (word : List ℕ) (words : Line) (r : Result A E) → numeral word ≡ true → gives word r → MatchResult r (λ n. reader (word ∷ words) ≡ Some (n, words)) (λ _. reader (word ∷ words) ≡ None)

-- one and then another
abbrev pub both : {A B : Type 0} → (Line → Read A) → (Line → Read B) → Line → Read (A × B)
both first second words = and_then (first words) (λ a words. and_then (second words) (λ b words. Some ((a, b), words)))

-- two numbers of 16 bits, two of 32, and four of 16
abbrev pub pair_of : Line → Read (ℕ × ℕ)
pair_of words = both edge_of edge_of words

abbrev pub range_of : Line → Read (ℕ × ℕ)
range_of words = both count_of count_of words

abbrev pub edges_of : Line → Read ((ℕ × ℕ) × (ℕ × ℕ))
edges_of words = both pair_of pair_of words

-- what follows a word, if that stands in front
abbrev pub following : List ℕ → Line → Option Line
following word [] = None
following word (first ∷ words) = cond (bytes_eq first word) (Some words) None

abbrev pub part_after : {A : Type 0} → Option Line → (Line → Read A) → Line → Read (Option A)
part_after None part words = Some (None, words)
part_after (Some rest) part words = and_then (part rest) (λ a words. Some (Some a, words))

-- a part that begins with a word of its own, and may be left out
abbrev pub optional : {A : Type 0} → List ℕ → (Line → Read A) → Line → Read (Option A)
optional word part words = part_after (following word words) part words

-- a part that begins with a word of its own, and may not be left out
abbrev pub behind : {A : Type 0} → Option Line → (Line → Read A) → Read A
behind None part = None
behind (Some rest) part = part rest

-- Where more than one thing may be read from the same words, it is said what they may be: a relation of the words
-- before, what they say, and the words after. A reader says what it reads.
abbrev pub By : {A : Type 0} → (Line → Read A) → Line → A → Line → Type 0
By reader before a after = reader before ≡ Some (a, after)

-- what is made of something that is said
abbrev pub Making : {A B : Type 0} → (Line → A → Line → Type 0) → (A → B) → Line → B → Line → Type 0
Making {A = A} says make before b after = (a : A) × says before a after × (b ≡ make a)

-- the words before say it, and whatever else they may say leaves the same words after
abbrev pub Sole : {A : Type 0} → (Line → A → Line → Type 0) → Line → A → Line → Type 0
Sole {A = A} says before a after = says before a after × ((b : A) (rest : Line) → says before b rest → rest ≡ after)

-- the words before say nothing
abbrev pub Mute : {A : Type 0} → (Line → A → Line → Type 0) → Line → Type 0
Mute {A = A} says before = (b : A) (rest : Line) → says before b rest → ⊥

-- the answer is what the words before say, and those after are left; or there is none, and they say nothing
abbrev pub Told : {A E : Type 0} → (Line → A → Line → Type 0) → Words → Result A E → Words → Type 0
Told says before r after = MatchResult r (λ a. Sole says (left before) a (left after)) (λ _. Mute says (left before))
