-- Laws of a run: its addresses, its bytes, and what an entry does to it.
use Prim.Native.Nat.{ℕ, zero, suc, ◌+◌, ◌-◌, ◌*◌, ◌/◌, ◌%◌, ◌≤◌, ◌<◌}
use native.Mathlib.Omega.{arith}
use Rattle.std.proofs.Math.Decide.{dec_lt, ℕ_discrete}
use Rattle.std.specs.Prelude.{◌≡◌, refl, Option, Some, None, List, [], ◌∷◌, ◌++◌, length, get_or, take, drop}
use Rattle.std.proofs.Common.{ap, ◌∙◌, length-drop, length-take-le}
use Rattle.std.proofs.lemmas.List.{get_or-take, get_or-drop}
use borrow.Author.Tests.{lt-ltb, le-ltb, eq-eqb, ne_eqb}
use Rattle.words.specs.Choice.{pick}
use Rattle.words.specs.Word.{not_given}
use Rattle.numerals.specs.Hex.{byte_text}
use Rattle.words.specs.Address.{config_base, address_of, place_of, doubled}
use Rattle.words.specs.LawsAddress.{place_of_lem, address_program, address_config}
use Rattle.words.specs.declared.ByteAddress.{ByteAddress}
use Rattle.words.specs.declared.WordAddress.{WordAddress}
use Rattle.device.specs.Record.{most_words}
use Rattle.device.specs.Memory.{reading_tail}
use Rattle.hexwrite.specs.Writer.{sum_of, digits_of, record_text, hex_address, upper_of, word_bytes, data_bytes, upper_bytes, run_text, upper_after, run_end, next_start}
use Rattle.hexwrite.specs.LawsWrite.{Addressed, upper_text, head_text, closing_text, length_record}
use Rattle.hexwrite.specs.LawsWriter.{Puts, puts_none, puts_then, record_puts}
use Rattle.hexwrite.specs.declared.writer.Writer.{Writer}

-- ---- addresses

-- an entry's byte address, in numbers
module _ (words i : ℕ) where
  pub hex_program : i < words → hex_address words i ≡ 2 * i
  unfolding hex_address
  hex_program h = rw (address_program config_base words i h)

  pub hex_config : words ≤ i → hex_address words i ≡ 65536 + 2 * (i - words)
  unfolding hex_address
  hex_config h = rw (address_config config_base words i h) (omega arith)

  pub hex_below : words ≤ most_words → i ≤ words + reading_tail → hex_address words i < 0x20000
  hex_below m h = by (dec_lt i words)
    where
      by : Dec (i < words) → hex_address words i < 0x20000
      by (yes p) = rw (hex_program p) (omega arith)
      by (no p) = rw (hex_config (omega arith)) (omega arith)

  pub upper_program : words ≤ most_words → i < words → upper_of words i ≡ 0
  unfolding upper_of
  upper_program m h = rw (hex_program h) (omega arith)

  pub upper_config : words ≤ i → i ≤ words + reading_tail → upper_of words i ≡ 1
  unfolding upper_of
  upper_config p h = rw (hex_config p) (omega arith)

  pub upper_most : words ≤ most_words → i ≤ words + reading_tail → upper_of words i ≤ 1
  unfolding upper_of
  upper_most m h = let b : hex_address words i < 0x20000 = hex_below m h in omega arith

-- the upper half never falls
pub upper_rises : (words i j : ℕ) → words ≤ most_words → i ≤ j → j ≤ words + reading_tail → upper_of words i ≤ upper_of words j
upper_rises words i j m p h = by (dec_lt i words)
  where
    by : Dec (i < words) → upper_of words i ≤ upper_of words j
    by (yes q) = rw (upper_program words i m q) (omega arith)
    by (no q) = rw (upper_config words i (omega arith) (omega arith), upper_config words j (omega arith) h) (omega arith)

-- the code's way: the entry's place, and its byte address
module _ {words i : ℕ} (m : words ≤ most_words) (h : i < words + reading_tail) where
  pub address_at : {p : Option WordAddress} {a : WordAddress} {r : ByteAddress} → p ≡ Some a → p ≡ place_of config_base words reading_tail i → r ≡ doubled a → Addressed words i r
  unfolding doubled
  address_at {p} {a} {r} t e d = record { is = here; below = rw here (hex_below words i m (omega arith)) }
    where
      same : a ≡ record { 0 = address_of config_base words i }
      same =
          let q : place_of config_base words reading_tail i ≡ Some (record { 0 = address_of config_base words i }) = place_of_lem config_base words reading_tail i (omega arith) (omega arith) h in
          cc

      here : r.0 ≡ hex_address words i
      here = ap (λ x. x.0) d ∙ (ap (λ x. 2 * x.0) same ∙ (unfold hex_address in refl))

  pub address_nowhere : {p : Option WordAddress} {r : ByteAddress} → p ≡ None → p ≡ place_of config_base words reading_tail i → Addressed words i r
  address_nowhere {p} {r} t e =
      let q : place_of config_base words reading_tail i ≡ Some (record { 0 = address_of config_base words i }) = place_of_lem config_base words reading_tail i (omega arith) (omega arith) h in
      let z : ◌≡◌ {A = ℕ} 0 1 = cc in
      absurd (omega arith)

-- ---- bytes of a data record

pub length_words : (n i : ℕ) (image : List ℕ) → length (word_bytes n i image) ≡ 2 * n
unfolding word_bytes
length_words zero i image = refl
length_words (suc n) i image = let ih : length (word_bytes n (i + 1) image) ≡ 2 * n = length_words n (i + 1) image in omega arith

pub length_data : (words : ℕ) (image : List ℕ) (s e : ℕ) → length (data_bytes words image s e) ≡ 4 + 2 * (e - s)
unfolding data_bytes
length_data words image s e = let w : length (word_bytes (e - s) s image) ≡ 2 * (e - s) = length_words (e - s) s image in omega arith

-- the same by the run's words and the address of its first byte
unfoldable pub run_bytes : (address : ℕ) → List ℕ → List ℕ
run_bytes address run = 2 * length run ∷ address % 65536 / 256 ∷ address % 256 ∷ 0 ∷ word_bytes (length run) 0 run

pub length_run_record : (address : ℕ) (run : List ℕ) → length (record_text (run_bytes address run)) ≡ 12 + 4 * length run
unfolding run_bytes
length_run_record address run =
    let r : length (record_text (run_bytes address run)) ≡ 2 * length (run_bytes address run) + 4 = length_record (run_bytes address run) in
    let n : length (word_bytes (length run) 0 run) ≡ 2 * length run = length_words (length run) 0 run in
    omega arith

-- the bytes of words that were cut out of an image
word_part : (n i s m : ℕ) (image : List ℕ) → i + n ≤ m → word_bytes n i (take m (drop s image)) ≡ word_bytes n (s + i) image
unfolding word_bytes
word_part zero i s m image h = refl
word_part (suc n) i s m image h =
    let here : get_or (take m (drop s image)) i 0 ≡ get_or image (s + i) 0 = get_or-take m (drop s image) i 0 (omega arith) ∙ get_or-drop s image i 0 in
    let rest : word_bytes n (i + 1) (take m (drop s image)) ≡ word_bytes n (s + (i + 1)) image = word_part n (i + 1) s m image (omega arith) in
    let next : s + (i + 1) ≡ s + i + 1 = omega arith in
    rw (here, rest, next)

cut_bytes : (s e : ℕ) (image : List ℕ) → s < e → e ≤ length image → (length (take (e - s) (drop s image)) ≡ e - s) × (word_bytes (e - s) 0 (take (e - s) (drop s image)) ≡ word_bytes (e - s) s image)
cut_bytes s e image h t =
    let d : length (drop s image) ≡ length image - s = length-drop s image in
    let here : s + 0 ≡ s = omega arith in
    (length-take-le (e - s) (drop s image) (omega arith), word_part (e - s) 0 s (e - s) image (omega arith) ∙ ap (λ k. word_bytes (e - s) k image) here)

-- ---- the text of a run

module _ (words : ℕ) (image : List ℕ) (upper s e : ℕ) where
  pub run_some : s < e → run_text words image upper s e ≡ upper_text upper (upper_of words s) ++ record_text (data_bytes words image s e)
  unfolding run_text pick upper_text
  run_some h = rw (lt-ltb s e h)

  pub run_none : e ≤ s → run_text words image upper s e ≡ []
  unfolding run_text pick
  run_none h = rw (le-ltb s e h)

  pub after_some : s < e → upper_after words upper s e ≡ upper_of words s
  unfolding upper_after pick
  after_some h = rw (lt-ltb s e h)

  pub after_none : e ≤ s → upper_after words upper s e ≡ upper
  unfolding upper_after pick
  after_none h = rw (le-ltb s e h)

-- the code's upper half is the definition's
pub upper_read : (words s : ℕ) (a : ByteAddress) (r : ℕ) → Addressed words s a → r ≡ a.0 / 65536 → r ≡ upper_of words s
unfolding upper_of
upper_read words s a r d q = q ∙ ap (λ n. n / 65536) d.is

-- a run's text by its words
pub run_told : (words : ℕ) (image : List ℕ) (upper s e : ℕ) (a : ByteAddress) → Addressed words s a → s < e → e ≤ length image
    → run_text words image upper s e ≡ upper_text upper (a.0 / 65536) ++ record_text (run_bytes a.0 (take (e - s) (drop s image)))
unfolding upper_of data_bytes run_bytes
run_told words image upper s e a d h t =
    let b = cut_bytes s e image h t in
    run_some words image upper s e h ∙ rw (b.0, b.1, d.is)

module _ (upper next : ℕ) where
  pub upper_same : next ≡ upper → upper_text upper next ≡ []
  unfolding upper_text pick
  upper_same e = rw (eq-eqb next upper e)

  pub upper_new : (next ≡ upper → ⊥) → upper_text upper next ≡ record_text (upper_bytes next)
  unfolding upper_text pick
  upper_new n = rw (ne_eqb next upper n)

  pub length_new : (next ≡ upper → ⊥) → length (upper_text upper next) ≡ 16
  unfolding upper_bytes
  length_new n = rw (upper_new n) (length_record (upper_bytes next))

-- ---- what an entry does

-- entry i ends the run that began at s at e (at s: not yet), and the next one begins at t
pub record Cut (image : List ℕ) (s i e t : ℕ) : Type 0 where
  pub ends : run_end image s i ≡ e
  pub begins : next_start image s i ≡ t

module _ (image : List ℕ) (s i : ℕ) where
  pub cut_gap : get_or image i 0 ≡ not_given → Cut image s i i (i + 1)
  unfolding run_end next_start pick
  cut_gap e = record { ends = rw (eq-eqb (get_or image i 0) not_given e); begins = rw (eq-eqb (get_or image i 0) not_given e) }

  pub cut_full : (get_or image i 0 ≡ not_given → ⊥) → (i + 1) % 8 ≡ 0 → Cut image s i (i + 1) (i + 1)
  unfolding run_end next_start pick
  cut_full n e =
      record {
        ends = rw (ne_eqb (get_or image i 0) not_given n, eq-eqb ((i + 1) % 8) 0 e);
        begins = rw (ne_eqb (get_or image i 0) not_given n, eq-eqb ((i + 1) % 8) 0 e);
      }

  pub cut_none : (get_or image i 0 ≡ not_given → ⊥) → ((i + 1) % 8 ≡ 0 → ⊥) → Cut image s i s s
  unfolding run_end next_start pick
  cut_none n e =
      record {
        ends = rw (ne_eqb (get_or image i 0) not_given n, ne_eqb ((i + 1) % 8) 0 e);
        begins = rw (ne_eqb (get_or image i 0) not_given n, ne_eqb ((i + 1) % 8) 0 e);
      }

pub data Seen (image : List ℕ) (s i : ℕ) : Type 0 where
  gap : get_or image i 0 ≡ not_given → run_end image s i ≡ i → next_start image s i ≡ i + 1 → Seen image s i
  full : (get_or image i 0 ≡ not_given → ⊥) → (i + 1) % 8 ≡ 0 → run_end image s i ≡ i + 1 → next_start image s i ≡ i + 1 → Seen image s i
  goes : (get_or image i 0 ≡ not_given → ⊥) → ((i + 1) % 8 ≡ 0 → ⊥) → run_end image s i ≡ s → next_start image s i ≡ s → Seen image s i

pub seen : (image : List ℕ) (s i : ℕ) → Seen image s i
seen image s i = by (ℕ_discrete (get_or image i 0) not_given) (ℕ_discrete ((i + 1) % 8) 0)
  where
    by : Dec (get_or image i 0 ≡ not_given) → Dec ((i + 1) % 8 ≡ 0) → Seen image s i
    by (yes p) q = let c = cut_gap image s i p in gap p c.ends c.begins
    by (no p) (yes q) = let c = cut_full image s i p q in full p q c.ends c.begins
    by (no p) (no q) = let c = cut_none image s i p q in goes p q c.ends c.begins

-- ---- the code's records

pub upper_kept : (upper next : ℕ) (w : Writer) → next ≡ upper → Puts (upper_text upper next) w w
upper_kept upper next w e = rw (upper_same upper next e) (puts_none w)

pub upper_put : (upper next : ℕ) → (next ≡ upper → ⊥) → {a b c d e : Writer} → Puts (head_text 2 0 0 4) a b → Puts (byte_text (next / 256)) b c → Puts (byte_text (next % 256)) c d
    → Puts (closing_text (6 + next / 256 + next % 256)) d e → Puts (upper_text upper next) a e
unfolding upper_bytes
upper_put upper next n {b = b} {d = d} p q r t = rw (upper_new upper next n) (record_puts 2 0 0 4 (6 + next / 256 + next % 256) (next / 256 ∷ next % 256 ∷ []) p stored summed t)
  where
    stored : Puts (digits_of (next / 256 ∷ next % 256 ∷ [])) b d
    stored = unfold digits_of byte_text in puts_then q r

    summed : 6 + next / 256 + next % 256 ≡ 2 + (0 + (0 + (4 + sum_of (next / 256 ∷ next % 256 ∷ []))))
    summed = unfold sum_of in omega arith

pub data_put : (address : ℕ) (run : List ℕ) (sum : ℕ) → {a b c d : Writer} → Puts (head_text (2 * length run) (address % 65536 / 256) (address % 256) 0) a b
    → Puts (digits_of (word_bytes (length run) 0 run)) b c → sum ≡ sum_of (word_bytes (length run) 0 run)
    → Puts (closing_text (2 * length run + address % 65536 / 256 + address % 256 + sum)) c d → Puts (record_text (run_bytes address run)) a d
unfolding run_bytes
data_put address run sum p q e r = record_puts _ _ _ _ _ (word_bytes (length run) 0 run) p q (omega arith) r

-- ---- the digits of a run's words

-- i words are put, and their bytes added up
pub record Putting (run : List ℕ) (before now : Writer) (sum i : ℕ) : Type 0 where
  pub place : now.at + 4 * (length run - i) ≡ before.at + 4 * length run
  pub few : sum ≤ 510 * i
  pub room : length now.out.now ≡ length before.out.now
  pub left : (after : Writer) → Puts (digits_of (word_bytes (length run - i) i run)) now after → Puts (digits_of (word_bytes (length run) 0 run)) before after
  pub sums : sum + sum_of (word_bytes (length run - i) i run) ≡ sum_of (word_bytes (length run) 0 run)

module _ (run : List ℕ) (before : Writer) where
  pub putting_first : Putting run before before 0 0
  putting_first =
      let all : length run - 0 ≡ length run = omega arith in
      record { place = omega arith; few = omega arith; room = refl; left = λ after p. rw all at p; sums = rw all (omega arith) }

  module _ (now : Writer) (sum i : ℕ) (p : Putting run before now sum i) where
    pub putting_on : i < length run → get_or run i 0 < 65536 → {m n : Writer} → Puts (byte_text (get_or run i 0 % 256)) now m → m.at ≡ now.at + 2
        → Puts (byte_text (get_or run i 0 / 256)) m n → n.at ≡ m.at + 2 → Putting run before n (sum + (get_or run i 0 % 256 + get_or run i 0 / 256)) (i + 1)
    putting_on h fits {m} {n} q eq r er =
        record {
          place = omega (arith, p.place);
          few = omega (arith, p.few);
          room = r.room ∙ (q.room ∙ p.room);
          left = λ after t. p.left after (unfold word_bytes digits_of in rw more (puts_then q (puts_then r t)));
          sums = unfold word_bytes sum_of in
              let z : sum + (get_or run i 0 % 256 + (get_or run i 0 / 256 + sum_of (word_bytes (length run - (i + 1)) (i + 1) run))) ≡ sum_of (word_bytes (length run) 0 run) = rw more at p.sums in
              omega arith;
        }
      where
        more : length run - i ≡ suc (length run - (i + 1))
        more = omega arith

    module _ (h : length run ≤ i) where
      none : length run - i ≡ 0
      none = omega arith

      pub putting_done : Puts (digits_of (word_bytes (length run) 0 run)) before now
      putting_done = p.left now (unfold word_bytes digits_of in rw none (puts_none now))

      pub putting_sum : sum ≡ sum_of (word_bytes (length run) 0 run)
      putting_sum = unfold word_bytes sum_of in
          let z : sum + 0 ≡ sum_of (word_bytes (length run) 0 run) = rw none at p.sums in
          omega arith
