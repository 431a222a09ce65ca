-- Laws of a text that is a stream or a refusal: which of the two it is shows at its first byte.
use Prim.Native.Nat.{ℕ, ◌+◌, ◌-◌, ◌/◌, ◌<◌}
use Rattle.std.proofs.Common.{arith, sym, ap, ◌∙◌}
use Rattle.std.proofs.Math.Decide.{dec_lt}
use Rattle.std.specs.Prelude.{◌≡◌, Bool}
use Rattle.std.proofs.Math.Path.{refl}
use Rattle.std.proofs.Math.Bool.{true, false}
use mathlib.Core.List.{List, [], ◌∷◌}
use Rattle.std.proofs.Math.Dec.{eqb}
use borrow.Author.Tests.{eq-eqb, ne_eqb, eqb-true}
use Rattle.words.specs.Choice.{pick}
use Rattle.words.specs.LawsChoice.{pick_true, pick_false, true_not_false}
use Rattle.numerals.specs.Hex.{digit_text, byte_text, word_text}
use Rattle.numerals.specs.LawsHex.{digit_text_low, digit_text_high}
use Rattle.device.specs.declared.Device.{Device}
use Rattle.sheet.specs.FirstLine.{old_line}
use Rattle.sheet.specs.Sheet.{sheet_with}
use Rattle.target.specs.declared.Order.{Order}
use Rattle.target.specs.declared.Order.TheVariants.{LoadConfiguration, LoadData, Read, Increment, ResetAddress, Begin, BulkErase, RowErase}
use Rattle.target.specs.Stream.{code_of, step_bytes, bytes_of}
use Rattle.print.specs.Print.{refused_text}
use Rattle.listings.specs.Streams.{stream_text}
use Rattle.rehearsed.specs.Rehearsed.{is_refusal}

pub refusal_told : (number line column : ℕ) → is_refusal (refused_text number line column) ≡ true
unfolding is_refusal refused_text
refusal_told number line column = refl

-- no stream is taken for a refusal: each code has a digit first
code_told : (o : Order) (s : List Order) → is_refusal (stream_text (bytes_of (o ∷ s))) ≡ false
unfolding is_refusal bytes_of step_bytes stream_text code_of byte_text digit_text pick
code_told (LoadConfiguration w) s = refl
code_told (LoadData w) s = refl
code_told Read s = refl
code_told Increment s = refl
code_told ResetAddress s = refl
code_told Begin s = refl
code_told BulkErase s = refl
code_told RowErase s = refl

none_told : is_refusal (stream_text (bytes_of [])) ≡ false
unfolding is_refusal bytes_of stream_text
none_told = refl

pub stream_told : (s : List Order) → is_refusal (stream_text (bytes_of s)) ≡ false
stream_told [] = none_told
stream_told (o ∷ s) = code_told o s

-- nor is a sheet: its first line is the ID
digit_told : (n : ℕ) → n < 16 → eqb (digit_text n) 0x72 ≡ false
digit_told n h = ne_eqb (digit_text n) 0x72 (λ e. by e (dec_lt n 10))
  where
    by : digit_text n ≡ 0x72 → Dec (n < 10) → ⊥
    by e (yes p) = let t : digit_text n ≡ 0x30 + n = digit_text_low n p in omega arith
    by e (no p) = let t : digit_text n ≡ 0x41 + (n - 10) = digit_text_high n (omega arith) in omega arith

pub sheet_told : (id : ℕ) (d : Device) → id < 0x4000 → (reading : List ℕ) → is_refusal (sheet_with id d reading) ≡ false
unfolding is_refusal sheet_with old_line word_text byte_text
sheet_told id d small reading = digit_told (id / 256 / 16) (omega arith)

-- ---- a text, or a refusal

module _ (number line column : ℕ) (text : List ℕ) where
  pub not_refused : is_refusal (pick (eqb number 0) text (refused_text number line column)) ≡ false → number ≡ 0
  not_refused told = by (eqb number 0) refl
    where
      by : (b : Bool) → eqb number 0 ≡ b → number ≡ 0
      by true e = eqb-true number 0 e
      by false e = absurd (true_not_false (ap is_refusal (pick_false (eqb number 0) text (refused_text number line column) e) ∙ refusal_told number line column) told)

  pub text_is : number ≡ 0 → pick (eqb number 0) text (refused_text number line column) ≡ text
  text_is z = pick_true (eqb number 0) text (refused_text number line column) (eq-eqb number 0 z)

-- ---- three judges one after another: the board, the HEX file, the planner

unfoldable pub judged : (board hex : ℕ) → (line column : ℕ) → (plan : ℕ) → (text : List ℕ) → List ℕ
judged board hex line column plan text =
    pick (eqb board 0) (pick (eqb hex 0) (pick (eqb plan 0) text (refused_text plan 0 0)) (refused_text hex line column)) (refused_text board 0 0)

-- none of them refuses
pub record Unrefused (board hex plan : ℕ) : Type 0 where
  pub board_is : board ≡ 0
  pub hex_is : hex ≡ 0
  pub plan_is : plan ≡ 0

module _ (board hex line column plan : ℕ) (text : List ℕ) where
  pub judged_text : Unrefused board hex plan → judged board hex line column plan text ≡ text
  unfolding judged
  judged_text u =
      text_is board 0 0 (pick (eqb hex 0) (pick (eqb plan 0) text (refused_text plan 0 0)) (refused_text hex line column)) u.board_is
      ∙ (text_is hex line column (pick (eqb plan 0) text (refused_text plan 0 0)) u.hex_is ∙ text_is plan 0 0 text u.plan_is)

  pub unrefused : is_refusal (judged board hex line column plan text) ≡ false → Unrefused board hex plan
  unfolding judged
  unrefused told = record { board_is = first; hex_is = second; plan_is = third }
    where
      last : List ℕ
      last = pick (eqb plan 0) text (refused_text plan 0 0)

      rest : List ℕ
      rest = pick (eqb hex 0) last (refused_text hex line column)

      first : board ≡ 0
      first = not_refused board 0 0 rest told

      after_board : is_refusal rest ≡ false
      after_board = ap is_refusal (sym (text_is board 0 0 rest first)) ∙ told

      second : hex ≡ 0
      second = not_refused hex line column last after_board

      after_hex : is_refusal last ≡ false
      after_hex = ap is_refusal (sym (text_is hex line column last second)) ∙ after_board

      third : plan ≡ 0
      third = not_refused plan 0 0 text after_hex

-- two texts that the same three judge are the same refusal, if the one is a refusal that is not its own text
module _ (board hex line column plan : ℕ) (text other : List ℕ) where
  pub judged_alike : (Unrefused board hex plan → is_refusal text ≡ false) → is_refusal (judged board hex line column plan text) ≡ true → judged board hex line column plan other ≡ judged board hex line column plan text
  unfolding judged
  judged_alike own e = by (eqb board 0) refl (eqb hex 0) refl (eqb plan 0) refl e
    where
      by : (a : Bool) → eqb board 0 ≡ a → (b : Bool) → eqb hex 0 ≡ b → (c : Bool) → eqb plan 0 ≡ c
          → is_refusal (pick a (pick b (pick c text (refused_text plan 0 0)) (refused_text hex line column)) (refused_text board 0 0)) ≡ true
          → pick a (pick b (pick c other (refused_text plan 0 0)) (refused_text hex line column)) (refused_text board 0 0)
          ≡ pick a (pick b (pick c text (refused_text plan 0 0)) (refused_text hex line column)) (refused_text board 0 0)
      by true p true q true r t =
          absurd (true_not_false {b = is_refusal text} (unfold pick in t) (own (record { board_is = eqb-true board 0 p; hex_is = eqb-true hex 0 q; plan_is = eqb-true plan 0 r })))
      by true p true q false r t = unfold pick in refl
      by true p false q c r t = unfold pick in refl
      by false p b q c r t = unfold pick in refl
