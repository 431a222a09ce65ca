-- Laws of the writer: what it puts, one part after the other.
use Rattle.std.specs.Prelude.{ℕ, ◌+◌, ◌≡◌, refl, List, [], ◌∷◌, ◌++◌, length}
use Rattle.std.proofs.Common.{arith, add-zero, sym, ap, ◌∙◌, subst, length-append}
use Rattle.std.proofs.lemmas.List.Edits.{sets}
use Rattle.words.specs.LawsLists.{sets_append}
use Rattle.hexwrite.specs.Writer.{sum_of, digits_of, record_text}
use Rattle.hexwrite.specs.LawsWrite.{Wrote, head_text, closing_text, record_parts}
use Rattle.hexwrite.specs.declared.writer.Writer.{Writer}

-- a text was put into the same buffer, where the writer stood
pub record Puts (text : List ℕ) (before after : Writer) : Type 0 where
  pub same : after.out.ghost_name ≡ before.out.ghost_name
  pub wrote : Wrote text before.at before.out.now after.at after.out.now
  pub room : length after.out.now ≡ length before.out.now

pub puts_none : (w : Writer) → Puts [] w w
puts_none w = record { same = refl; wrote = record { bytes = refl; end = sym (add-zero w.at) }; room = refl }

-- one part after the other
pub puts_then : {x y : List ℕ} {a b c : Writer} → Puts x a b → Puts y b c → Puts (x ++ y) a c
puts_then {x} {y} {a} {b} {c} p q =
    record {
      same = q.same ∙ p.same;
      wrote = record {
        bytes = q.wrote.bytes
            ∙ (ap (λ o. sets o b.at y) p.wrote.bytes
            ∙ (ap (λ n. sets (sets a.out.now a.at x) n y) p.wrote.end ∙ sets_append a.out.now a.at x y));
        end = let n : length (x ++ y) ≡ length x + length y = length-append x y in
            let u : b.at ≡ a.at + length x = p.wrote.end in
            let v : c.at ≡ b.at + length y = q.wrote.end in
            omega arith;
      };
      room = q.room ∙ p.room;
    }

pub puts_as : {x y : List ℕ} {a b : Writer} → x ≡ y → Puts x a b → Puts y a b
puts_as {x} {y} {a} {b} e p = let P : List ℕ → Type 0 = λ t. Puts t a b in subst P e p

-- the parts of a record
pub record_puts : (count high low kind sum : ℕ) (body : List ℕ) {a b c d : Writer} → Puts (head_text count high low kind) a b → Puts (digits_of body) b c
    → sum ≡ count + (high + (low + (kind + sum_of body))) → Puts (closing_text sum) c d → Puts (record_text (count ∷ high ∷ low ∷ kind ∷ body)) a d
record_puts count high low kind sum body p q e r =
    puts_as (sym (record_parts count high low kind body)) (puts_then p (puts_then q (puts_as (ap closing_text e) r)))
