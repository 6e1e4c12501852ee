-- What a word and a tag that are kept together stand for.
use Rattle.cap_bounds.specs.CapValue.{CapValue, IsSound, value_of}
use Rattle.cap_bounds.specs.SoundLaws.{IsSound-value_of}
use Rattle.word_cap.specs.declared.word_cap.WordCap.{WordCap}

abbrev pub word_value : WordCap → CapValue
word_value c = value_of c.word c.tag

-- it is sound by what the word keeps
pub word_sound : (c : WordCap) → IsSound (word_value c)
word_sound c = IsSound-value_of c.word c.tag c.in_range c.well_formed
