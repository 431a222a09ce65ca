-- The cases that the paper marks in 'Worked on the bench', each a test that computes, and one statement over all of them.
use Rattle.std.specs.Prelude.{ℕ, zero, suc, ◌+◌, Bool, true, false, ◌&&◌, List, [], ◌∷◌, ◌++◌, eqb, length, set, replicate}
use Rattle.words.specs.Word.{erased, not_given}
use Rattle.device.specs.declared.Device.{Device}
use Rattle.hexread.specs.Reader.{text_read}
use Rattle.judge.specs.Checksum.{checksum_of}
use Rattle.plan.specs.Steps.{update_steps}
use Rattle.aim.specs.Refusal.{update_number}
use Rattle.target.specs.Run.{ran}
use Rattle.target.specs.Stream.{bytes_of}
use Rattle.target.specs.declared.Order.{Order}
use Rattle.target.specs.declared.Order.TheVariants.{LoadData, Increment, Begin}

-- TINY
abbrev pub tiny : Device
tiny = record { id = 0x2a00; words = 16; row = 8; mask1 = 0x3eff; mask2 = 0x3ff3; idmask = 0x3fff }

-- a blank TINY board: every word 3FFFh but 8005h and 8006h
abbrev pub blank_tiny : List ℕ
blank_tiny = set (set (replicate 25 erased) 21 0x2000) 22 0x2a00

abbrev pub no_image : List ℕ
no_image = replicate 25 not_given

-- a lent image with other content before
abbrev pub lent : List ℕ
lent = replicate 25 0x1111

-- the lines of the worked HEX texts, each with its LF
abbrev pub end_line : List ℕ
end_line = 58 ∷ 48 ∷ 48 ∷ 48 ∷ 48 ∷ 48 ∷ 48 ∷ 48 ∷ 49 ∷ 70 ∷ 70 ∷ 10 ∷ []

abbrev pub word0_line : List ℕ
word0_line = 58 ∷ 48 ∷ 50 ∷ 48 ∷ 48 ∷ 48 ∷ 48 ∷ 48 ∷ 48 ∷ 48 ∷ 48 ∷ 51 ∷ 52 ∷ 67 ∷ 65 ∷ 10 ∷ []

abbrev pub upper_line : List ℕ
upper_line = 58 ∷ 48 ∷ 50 ∷ 48 ∷ 48 ∷ 48 ∷ 48 ∷ 48 ∷ 52 ∷ 48 ∷ 48 ∷ 48 ∷ 49 ∷ 70 ∷ 57 ∷ 10 ∷ []

abbrev pub config_line : List ℕ
config_line = 58 ∷ 48 ∷ 50 ∷ 48 ∷ 48 ∷ 48 ∷ 69 ∷ 48 ∷ 48 ∷ 55 ∷ 70 ∷ 51 ∷ 70 ∷ 51 ∷ 50 ∷ 10 ∷ []

unfoldable pub same : List ℕ → List ℕ → Bool
same [] [] = true
same [] (b ∷ m) = false
same (a ∷ l) [] = false
same (a ∷ l) (b ∷ m) = eqb a b && same l m

-- ---- the cases

-- a text gives just this image, whatever was lent
unfoldable pub gives : (text image : List ℕ) → Bool
gives text image = eqb (text_read tiny text lent).number 0 && same (text_read tiny text lent).image image

-- the end record alone gives an empty image; the empty text gives 10
unfoldable pub end_alone : Bool
end_alone = gives end_line no_image && eqb (text_read tiny [] lent).number 10 && same (text_read tiny [] lent).image no_image

-- word 0000h is 3400h
unfoldable pub word_zero : Bool
word_zero = gives (word0_line ++ end_line) (set no_image 0 0x3400)

-- 8007h is 3F7Fh
unfoldable pub config_one : Bool
config_one = gives (upper_line ++ (config_line ++ end_line)) (set no_image 23 0x3f7f)

-- a protected board with user IDs 000Eh, 0008h, 0005h, 0008h, 8007h = 3F7Fh and 8008h = 3FFFh: 66CAh
abbrev pub protected_board : List ℕ
protected_board = replicate 16 erased ++ (0x000e ∷ 0x0008 ∷ 0x0005 ∷ 0x0008 ∷ 0x3fff ∷ 0x2000 ∷ 0x2a00 ∷ 0x3f7f ∷ 0x3fff ∷ [])

unfoldable pub protected_sum : Bool
protected_sum = eqb (checksum_of tiny protected_board) 0x66ca

-- blank TINY: 7EE2h
unfoldable pub blank_sum : Bool
blank_sum = eqb (checksum_of tiny blank_tiny) 0x7ee2

-- an update that is not refused and takes so many steps
unfoldable pub takes : (image reading : List ℕ) → ℕ → Bool
takes image reading n = eqb (update_number tiny image reading) 0 && eqb (length (update_steps tiny image reading)) n

-- only row 0 changes: 18 steps where a bit rises, 17 where none does; only row 1: 26, or 25
unfoldable pub one_row : Bool
one_row =
    takes (set no_image 3 0x1234) (set blank_tiny 3 0x1200) 18
    && takes (set no_image 11 0x1234) (set blank_tiny 11 0x1200) 26
    && takes (set no_image 3 0x1234) blank_tiny 17
    && takes (set no_image 11 0x1234) blank_tiny 25

-- eight loads at 0002h to 0009h and Begin at 0009h write 0008h to 000Fh
unfoldable pub loads_from : ℕ → ℕ → List Order
loads_from n zero = []
loads_from n (suc zero) = LoadData n ∷ Begin ∷ []
loads_from n (suc (suc k)) = LoadData n ∷ Increment ∷ loads_from (n + 1) (suc k)

unfoldable pub across_rows : Bool
across_rows =
    same (ran tiny (bytes_of (Increment ∷ Increment ∷ loads_from 0x102 8)) 100 (blank_tiny ++ (erased ∷ erased ∷ [])) []).target.cells
    (replicate 8 erased ++ (0x108 ∷ 0x109 ∷ 0x102 ∷ 0x103 ∷ 0x104 ∷ 0x105 ∷ 0x106 ∷ 0x107 ∷ [])
    ++ (erased ∷ erased ∷ erased ∷ erased ∷ erased ∷ 0x2000 ∷ 0x2a00 ∷ erased ∷ erased ∷ erased ∷ erased ∷ []))

-- all of them
unfoldable pub cases : List Bool
cases = end_alone ∷ word_zero ∷ config_one ∷ protected_sum ∷ blank_sum ∷ one_row ∷ across_rows ∷ []

unfoldable pub all_hold : List Bool → Bool
all_hold [] = true
all_hold (b ∷ l) = b && all_hold l
