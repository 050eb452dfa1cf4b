-- Why a line is faulty, in words.
use Rattle.std.specs.Prelude.{ℕ, List, codes}
use Rattle.text.specs.declared.reason.Reason.{Reason}
use Rattle.text.specs.declared.reason.Reason.TheVariants.{NotText, UnknownWord, SurplusWord, NumberMissing, NotANumber, NumberTooLarge, NotAnOpacity, PadMissing, SourceMissing, UnknownKind, UnknownSurface, KindNotFirst, StripAfterCall, PlacesAfterCall, PlacesTwice, FillAmongRuns, RunAmongFills, TooManyLines}

abbrev pub sentence_of : Reason → List ℕ
sentence_of NotText = codes "the line is not UTF-8 text"
sentence_of UnknownWord = codes "the first word is not known"
sentence_of SurplusWord = codes "a word is surplus or out of its place"
sentence_of NumberMissing = codes "a number is missing"
sentence_of NotANumber = codes "a number is not written in decimal digits alone"
sentence_of NumberTooLarge = codes "a number is too large for its place"
sentence_of NotAnOpacity = codes "the opacity is not a number"
sentence_of PadMissing = codes "the filter's padding is missing"
sentence_of SourceMissing = codes "the filter's source padding is missing"
sentence_of UnknownKind = codes "the kind is neither fill nor run"
sentence_of UnknownSurface = codes "the surface is neither scene nor the number of a layer"
sentence_of KindNotFirst = codes "the kind stands once and before every other line"
sentence_of StripAfterCall = codes "a strip stands before the first call"
sentence_of PlacesAfterCall = codes "the number of places stands before the first call"
sentence_of PlacesTwice = codes "the number of places stands once"
sentence_of FillAmongRuns = codes "this is a sheet of runs and has no fill"
sentence_of RunAmongFills = codes "this is a sheet of fills and has no run"
sentence_of TooManyLines = codes "no line has a number above 4294967295"
