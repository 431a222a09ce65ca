-- For each public call: two results that its promise allows are equal, the answer and the later content of what was lent.
use mathlib.Core.Path.{◌≡◌}
use Rattle.words.specs.LawsPromise.{determined}
use Rattle.numerals.proofs.hex.digit.Reads as digit
use Rattle.numerals.proofs.hex.digits.Reads as digits
use Rattle.numerals.proofs.hex.capital.Reads as capital
use Rattle.numerals.proofs.hex.byte.Reads as byte
use Rattle.numerals.proofs.hex.word.Reads as word
use Rattle.numerals.proofs.hex.capital_byte.Reads as capital_byte
use Rattle.numerals.proofs.hex.capital_word.Reads as capital_word
use Rattle.numerals.proofs.hex.put.Reads as put
use Rattle.numerals.proofs.hex.put_byte.Reads as put_byte
use Rattle.numerals.proofs.hex.put_word.Reads as put_word
use Rattle.numerals.proofs.decimal.read.Reads as read

pub digit_determined : (κs : _) (a : _) (r s : _) (x y : _) → digit.Post κs a r x → digit.Post κs a s y → r ≡ s
digit_determined κs a r s x y p q = determined p q

pub digits_determined : (κs : _) (a : _) (r s : _) (x y : _) → digits.Post κs a r x → digits.Post κs a s y → r ≡ s
digits_determined κs a r s x y p q = determined p q

pub capital_determined : (κs : _) (a : _) (r s : _) (x y : _) → capital.Post κs a r x → capital.Post κs a s y → r ≡ s
capital_determined κs a r s x y p q = determined p q

pub byte_determined : (κs : _) (a : _) (r s : _) (x y : _) → byte.Post κs a r x → byte.Post κs a s y → r ≡ s
byte_determined κs a r s x y p q = determined p q

pub word_determined : (κs : _) (a : _) (r s : _) (x y : _) → word.Post κs a r x → word.Post κs a s y → r ≡ s
word_determined κs a r s x y p q = determined p q

pub capital_byte_determined : (κs : _) (a : _) (r s : _) (x y : _) → capital_byte.Post κs a r x → capital_byte.Post κs a s y → r ≡ s
capital_byte_determined κs a r s x y p q = determined p q

pub capital_word_determined : (κs : _) (a : _) (r s : _) (x y : _) → capital_word.Post κs a r x → capital_word.Post κs a s y → r ≡ s
capital_word_determined κs a r s x y p q = determined p q

pub read_determined : (κs : _) (a : _) (r s : _) (x y : _) → read.Post κs a r x → read.Post κs a s y → r ≡ s
read_determined κs a r s x y p q = determined p q

pub put_determined : (κs : _) (a : _) (r s : _) (x y : _) → put.Post κs a r x → put.Post κs a s y → x.0.now ≡ y.0.now
put_determined κs a r s x y p q = determined p q

pub put_byte_determined : (κs : _) (a : _) (r s : _) (x y : _) → put_byte.Post κs a r x → put_byte.Post κs a s y → x.0.now ≡ y.0.now
put_byte_determined κs a r s x y p q = determined p q

pub put_word_determined : (κs : _) (a : _) (r s : _) (x y : _) → put_word.Post κs a r x → put_word.Post κs a s y → x.0.now ≡ y.0.now
put_word_determined κs a r s x y p q = determined p q
