-- Laws of line 1: what its test tells in each form, what the code's parts come to, and that what is written in either form is read back.
use Prim.Native.Nat.{ℕ, suc, ◌+◌, ◌-◌, ◌≤◌, ◌<◌}
use Rattle.std.proofs.Common.{not-suc-le-zero, le_of_suc-le-suc, ◌∙◌, length-append, length-drop, get_or-drop, take_all}
use native.Mathlib.Omega.{arith}
use Rattle.std.proofs.Math.Decide.{dec_lt}
use Rattle.std.specs.Prelude.{◌≡◌, Some, None, Result, Bool, ◌&&◌, eqb, get_or}
use Rattle.std.proofs.Math.Path.{refl, sym, ap}
use Rattle.std.proofs.Math.Bool.{true, false}
use mathlib.Core.List.{List, [], ◌∷◌, ◌++◌, append_assoc}
use Rattle.std.proofs.Math.Dec.{ltb, leb}
use Rattle.std.proofs.Math.ListN.{length, take, drop, take-append-drop}
use Rattle.std.proofs.Math.Seq.{take-length, length-take-le, take-append_seam, drop-append_seam, drop-append-add}
use borrow.Author.Tests.{lt-ltb, ltb-true, eq-eqb, eqb-true, ne_eqb}
use Rattle.marks.specs.Marks.{index_of, index_after, slice}
use Rattle.words.specs.Choice.{pick, below}
use Rattle.words.specs.Word.{is_word}
use Rattle.words.specs.LawsChoice.{pick_true, pick_false, both, first_holds, second_holds, true_not_false}
use Rattle.words.specs.LawsTests.{fails, by_test}
use Rattle.words.specs.LawsLists.{get_d_past}
use Rattle.words.specs.LawsWord.{is_word_lem, word_lt}
use Rattle.numerals.specs.Text.{tab, lf}
use Rattle.numerals.specs.Hex.{within, capital_of, word_by, word_text}
use Rattle.numerals.specs.LawsHex.{length_word_text, within_low}
use Rattle.refusal.specs.declared.Refusal.{Refusal}
use Rattle.refusal.specs.LawsRefusal.{answer_unique}
use Rattle.table.specs.Table.{all_printable, name_ok}
use Rattle.table.specs.LawsLine.{below_none, below_some}
use Rattle.sheet.specs.FirstLine.{Line1, id_told, same_text, old_line, new_line, id_in, is_new, name_in, sum_in, line_in, line_ok, rest_in, first_line}
use Rattle.sheet.specs.LawsStands.{Stands, stands_join, stands_left, stands_right, stands_byte, byte_stands, stands_next, stands_cons, stands_part, stands_front, front_stands, stands_word, word_stands, same_self, same_equal}

-- ---- lengths

pub length_old : (id : ℕ) → length (old_line id) ≡ 5
unfolding old_line
length_old id = rw (length-append, length_word_text)

pub length_new : (id : ℕ) (name : List ℕ) (sum : ℕ) → length (new_line id name sum) ≡ 11 + length name
unfolding new_line
length_new id name sum = rw (length-append, length_word_text, length-append, length-append, length_word_text) (omega arith)

-- ---- the parts of line 1, each at its place

-- the new form's
pub record Fields (id : ℕ) (name : List ℕ) (sum : ℕ) (t : List ℕ) : Type 0 where
  pub id_here : Stands 0 (word_text id) t
  pub first_tab : get_or t 4 0 ≡ tab
  pub name_here : Stands 5 name t
  pub next_tab : get_or t (5 + length name) 0 ≡ tab
  pub sum_here : Stands (5 + length name + 1) (word_text sum) t
  pub end_here : get_or t (5 + length name + 1 + 4) 0 ≡ lf

module _ (id : ℕ) (name : List ℕ) (sum : ℕ) (t : List ℕ) where
  pub fields_stand : Stands 0 (new_line id name sum) t → Fields id name sum t
  unfolding new_line
  fields_stand p =
      let last : List ℕ = word_text sum ++ (lf ∷ []) in
      let a : Stands 4 (tab ∷ (name ++ (tab ∷ last))) t = rw length_word_text at (stands_right 0 (word_text id) (tab ∷ (name ++ (tab ∷ last))) t p) in
      let b : Stands 5 (name ++ (tab ∷ last)) t = stands_next 4 tab (name ++ (tab ∷ last)) t a in
      let c : Stands (5 + length name) (tab ∷ last) t = stands_right 5 name (tab ∷ last) t b in
      let e : Stands (5 + length name + 1) last t = stands_next (5 + length name) tab last t c in
      let f : Stands (5 + length name + 1 + 4) (lf ∷ []) t = rw length_word_text at (stands_right (5 + length name + 1) (word_text sum) (lf ∷ []) t e) in
      record {
        id_here = stands_left 0 (word_text id) (tab ∷ (name ++ (tab ∷ last))) t p;
        first_tab = byte_stands 4 tab (name ++ (tab ∷ last)) t a;
        name_here = stands_left 5 name (tab ∷ last) t b;
        next_tab = byte_stands (5 + length name) tab last t c;
        sum_here = stands_left (5 + length name + 1) (word_text sum) (lf ∷ []) t e;
        end_here = byte_stands (5 + length name + 1 + 4) lf [] t f;
      }

  stand_fields : Fields id name sum t → Stands 0 (new_line id name sum) t
  unfolding new_line
  stand_fields p =
      let last : List ℕ = word_text sum ++ (lf ∷ []) in
      let e : Stands (5 + length name + 1) last t =
      stands_join (5 + length name + 1) (word_text sum) (lf ∷ []) t p.sum_here (rw length_word_text (stands_byte (5 + length name + 1 + 4) lf t p.end_here)) in
      let c : Stands (5 + length name) (tab ∷ last) t = stands_cons (5 + length name) tab last t p.next_tab e in
      stands_join 0 (word_text id) (tab ∷ (name ++ (tab ∷ last))) t p.id_here
      (rw length_word_text (stands_cons 4 tab (name ++ (tab ∷ last)) t p.first_tab (stands_join 5 name (tab ∷ last) t p.name_here c)))

  pub new_tab : Stands 0 (new_line id name sum) t → get_or t 4 0 ≡ tab
  new_tab p = (fields_stand p).first_tab

-- the old form's
module _ (id : ℕ) (t : List ℕ) where
  pub old_end : Stands 0 (old_line id) t → get_or t 4 0 ≡ lf
  unfolding old_line
  old_end p = byte_stands 4 lf [] t (rw length_word_text at (stands_right 0 (word_text id) (lf ∷ []) t p))

  old_stands : Stands 0 (word_text id) t → get_or t 4 0 ≡ lf → Stands 0 (old_line id) t
  unfolding old_line
  old_stands p e = stands_join 0 (word_text id) (lf ∷ []) t p (rw length_word_text (stands_byte 4 lf t e))

-- where a search ends
index_within : (m : ℕ) (l : List ℕ) → index_of m l ≤ length l
unfolding index_of index_after
index_within m [] = omega arith
index_within m (c ∷ l) = by (eqb c m) (index_within m l)
  where
    by : (t : Bool) → index_of m l ≤ length l → index_after t (index_of m l) ≤ suc (length l)
    by true h = omega arith
    by false h = omega arith

index_here : (m : ℕ) (l : List ℕ) → index_of m l < length l → get_or l (index_of m l) 0 ≡ m
unfolding index_of index_after
index_here m [] h = absurd (not-suc-le-zero h)
index_here m (c ∷ l) h = by (eqb c m) refl h (index_here m l)
  where
    by : (t : Bool) → eqb c m ≡ t → index_after t (index_of m l) < suc (length l) → (index_of m l < length l → get_or l (index_of m l) 0 ≡ m) → get_or (c ∷ l) (index_after t (index_of m l)) 0 ≡ m
    by true e p ih = eqb-true c m e
    by false e p ih = ih (le_of_suc-le-suc p)

-- a byte that is not 0 stands within the text
inside : (t : List ℕ) (at c : ℕ) → get_or t at 0 ≡ c → 0 < c → at < length t
inside t at c e p = by (dec_lt at (length t))
  where
    by : Dec (at < length t) → at < length t
    by (yes h) = h
    by (no h) = let z : get_or t at 0 ≡ 0 = get_d_past t at (omega arith) in absurd (omega arith)

-- ---- what the test of line 1 tells

-- of the new form
pub record NewIs (t : List ℕ) : Type 0 where
  pub first_tab : get_or t 4 0 ≡ tab
  pub name_ok_lem : name_ok (name_in t) ≡ true
  pub sum_small : sum_in t < 65536
  pub next_tab : get_or t (5 + length (name_in t)) 0 ≡ tab
  pub end_here : get_or t (5 + length (name_in t) + 1 + 4) 0 ≡ lf

module _ (t : List ℕ) where
  kind : Bool
  kind = pick (is_new t) (name_ok (name_in t) && ltb (sum_in t) 65536) true

  again : Bool
  again = same_text (take (length (line_in t)) t) (line_in t)

  pub line_id : line_ok t ≡ true → id_in t < 0x4000
  unfolding line_ok kind again
  line_id e = word_lt (id_in t) (first_holds (is_word (id_in t)) kind (first_holds (is_word (id_in t) && kind) again e))

  -- line 1 is what is written of its fields
  pub line_front : line_ok t ≡ true → take (length (line_in t)) t ≡ line_in t
  unfolding line_ok kind again
  line_front e = same_equal (take (length (line_in t)) t) (line_in t) (second_holds (is_word (id_in t) && kind) again e)

  line_stands : line_ok t ≡ true → Stands 0 (line_in t) t
  line_stands e = front_stands (line_in t) t (line_front e)

  is_old : is_new t ≡ false → line_in t ≡ old_line (id_in t)
  unfolding line_in
  is_old f = pick_false (is_new t) _ _ f

  is_new_lem : is_new t ≡ true → line_in t ≡ new_line (id_in t) (name_in t) (sum_in t)
  unfolding line_in
  is_new_lem y = pick_true (is_new t) _ _ y

  pub old_is : line_ok t ≡ true → is_new t ≡ false → get_or t 4 0 ≡ lf
  old_is e f = old_end (id_in t) t (rw (is_old f) at (line_stands e))

  pub new_is : line_ok t ≡ true → is_new t ≡ true → NewIs t
  new_is e y =
      let p : Fields (id_in t) (name_in t) (sum_in t) t = fields_stand (id_in t) (name_in t) (sum_in t) t (rw (is_new_lem y) at (line_stands e)) in
      let k : (name_ok (name_in t) && ltb (sum_in t) 65536) ≡ true = (unfold line_ok in kinds e) in
      record {
        first_tab = p.first_tab;
        name_ok_lem = first_holds (name_ok (name_in t)) (ltb (sum_in t) 65536) k;
        sum_small = ltb-true (sum_in t) 65536 (second_holds (name_ok (name_in t)) (ltb (sum_in t) 65536) k);
        next_tab = p.next_tab;
        end_here = p.end_here;
      }
    where
      kinds : (is_word (id_in t) && pick (is_new t) (name_ok (name_in t) && ltb (sum_in t) 65536) true && same_text (take (length (line_in t)) t) (line_in t)) ≡ true
          → (name_ok (name_in t) && ltb (sum_in t) 65536) ≡ true
      kinds q =
          sym (pick_true (is_new t) (name_ok (name_in t) && ltb (sum_in t) 65536) true y)
          ∙ second_holds (is_word (id_in t)) (pick (is_new t) (name_ok (name_in t) && ltb (sum_in t) 65536) true)
          (first_holds (is_word (id_in t) && pick (is_new t) (name_ok (name_in t) && ltb (sum_in t) 65536) true) (same_text (take (length (line_in t)) t) (line_in t)) q)

  old_kind : is_new t ≡ false → kind ≡ true
  unfolding kind
  old_kind f = pick_false (is_new t) _ _ f

  new_kind : is_new t ≡ true → name_ok (name_in t) ≡ true → sum_in t < 65536 → kind ≡ true
  unfolding kind
  new_kind y n s = pick_true (is_new t) _ _ y ∙ both (name_ok (name_in t)) (ltb (sum_in t) 65536) n (lt-ltb (sum_in t) 65536 s)

  tab_new : get_or t 4 0 ≡ tab → is_new t ≡ true
  unfolding is_new
  tab_new e = eq-eqb (get_or t 4 0) tab e

  name_stands : Stands 5 (name_in t) t
  unfolding name_in
  name_stands = stands_part 5 (index_of tab (drop 5 t)) t (index_within tab (drop 5 t))

  sum_stands : sum_in t < 65536 → Stands (5 + length (name_in t) + 1) (word_text (sum_in t)) t
  unfolding sum_in
  sum_stands s = stands_word t (5 + length (name_in t) + 1) (sum_in t) refl s

  -- and the other way
  line_of : id_in t < 0x4000 → kind ≡ true → Stands 0 (line_in t) t → length (line_in t) ≤ length t → line_ok t ≡ true
  unfolding line_ok kind again
  line_of small k p h =
      both (is_word (id_in t) && kind) again (both (is_word (id_in t)) kind (is_word_lem (id_in t) small) k)
      (ap (λ s. same_text s (line_in t)) (stands_front (line_in t) t p h) ∙ same_self (line_in t))

  module _ (small : id_in t < 0x4000) where
    id_stands_here : Stands 0 (word_text (id_in t)) t
    id_stands_here = stands_word t 0 (id_in t) refl (omega arith)

    -- LF after the ID is no tab
    pub old_form : get_or t 4 0 ≡ lf → is_new t ≡ false
    unfolding is_new
    old_form e = ne_eqb (get_or t 4 0) tab (λ z. omega (arith, e, z))

    pub line_old : get_or t 4 0 ≡ lf → line_ok t ≡ true
    line_old e =
        let f : is_new t ≡ false = old_form e in
        let short : 4 < length t = inside t 4 lf e (omega arith) in
        line_of small (old_kind f)
        (rw (is_old f) (old_stands (id_in t) t id_stands_here e))
        (rw (is_old f, length_old) (omega arith))

    pub line_new : NewIs t → line_ok t ≡ true
    line_new p =
        let y : is_new t ≡ true = tab_new p.first_tab in
        let short : 4 < length t = inside t 4 tab p.first_tab (omega arith) in
        let last : 5 + length (name_in t) + 1 + 4 < length t = inside t (5 + length (name_in t) + 1 + 4) lf p.end_here (omega arith) in
        line_of small (new_kind y p.name_ok_lem p.sum_small)
        (rw (is_new_lem y)
        (stand_fields (id_in t) (name_in t) (sum_in t) t (record {
          id_here = id_stands_here;
          first_tab = p.first_tab;
          name_here = name_stands;
          next_tab = p.next_tab;
          sum_here = sum_stands p.sum_small;
          end_here = p.end_here;
        })))
        (rw (is_new_lem y, length_new) (omega arith))

-- ---- what the code's parts come to

-- line 1 as it was read: its ID, and what stands after it
pub record HeadOf (t : List ℕ) (id : ℕ) (rest : List ℕ) : Type 0 where
  pub ok : line_ok t ≡ true
  pub id_is : id ≡ id_in t
  pub rest_is : rest ≡ rest_in t

-- and in the new form its name and its sum
pub record LabelOf (t name : List ℕ) (sum : ℕ) : Type 0 where
  pub new : is_new t ≡ true
  pub name_is : name ≡ name_in t
  pub sum_is : sum ≡ sum_in t

module _ (t : List ℕ) where
  -- what stands after it, as the code cuts it
  rest_cut : (size : ℕ) → size ≡ length (line_in t) → take (length t - size) (drop size t) ≡ rest_in t
  unfolding rest_in
  rest_cut size e = take_all (length t - size) (drop size t) (rw length-drop (omega arith)) ∙ ap (λ n. drop n t) e

  pub head_no_id : below 65536 (word_by capital_of t 0) ≡ None → line_ok t ≡ false
  head_no_id e = fails (line_ok t) (λ ok. let s : id_in t < 0x4000 = line_id t ok in omega (arith, below_none 65536 _ e))

  pub head_short : length t ≤ 4 → line_ok t ≡ false
  head_short h =
      let z : get_or t 4 0 ≡ 0 = get_d_past t 4 h in
      fails (line_ok t) (λ ok. by_test (is_new t) (λ y. omega (arith, z, (new_is t ok y).first_tab)) (λ f. omega (arith, z, old_is t ok f)))

  module _ (id : ℕ) (read : below 65536 (word_by capital_of t 0) ≡ Some id) where
    pub id_there : id ≡ id_in t
    id_there = sym (below_some 65536 _ id read).1

    pub head_no_word : 0x4000 ≤ id → line_ok t ≡ false
    head_no_word h = fails (line_ok t) (λ ok. let s : id_in t < 0x4000 = line_id t ok in omega (arith, id_there))

    module _ (small : id < 0x4000) where
      small_in : id_in t < 0x4000
      small_in = rw id_there at small

      pub head_old : get_or t 4 0 ≡ lf → HeadOf t id (take (length t - 5) (drop 5 t)) × (is_new t ≡ false)
      head_old here =
          let f : is_new t ≡ false = old_form t small_in here in (
            record {
              ok = line_old t small_in here;
              id_is = id_there;
              rest_is = rest_cut 5 (sym (ap length (is_old t f) ∙ length_old (id_in t)));
            },
            f,
          )

      pub head_neither : (get_or t 4 0 ≡ lf → ⊥) → (get_or t 4 0 ≡ tab → ⊥) → line_ok t ≡ false
      head_neither n m = fails (line_ok t) (λ ok. by_test (is_new t) (λ y. m (new_is t ok y).first_tab) (λ f. n (old_is t ok f)))

-- a tab after the ID stands within the text
pub five_long : (t : List ℕ) → get_or t 4 0 ≡ tab → 5 ≤ length t
five_long t first = let h : 4 < length t = inside t 4 tab first (omega arith) in omega arith

-- the new form, from where the search for the tab after the name ended
module _ (t : List ℕ) (first : get_or t 4 0 ≡ tab) (end : ℕ) (found : end ≡ 5 + index_of tab (slice 5 (length t) t)) where
  at : end ≡ 5 + index_of tab (drop 5 t)
  at = found ∙ ap (λ l. 5 + index_of tab l) (unfold slice in ap (drop 5) (take-length t))

  name_length : length (name_in t) ≡ end - 5
  unfolding name_in
  name_length = length-take-le (index_of tab (drop 5 t)) (drop 5 t) (index_within tab (drop 5 t)) ∙ omega (arith, at)

  pub end_low : 5 ≤ end
  end_low = omega (arith, at)

  pub end_high : end ≤ length t
  end_high = let w : index_of tab (drop 5 t) ≤ length t - 5 = rw length-drop at (index_within tab (drop 5 t)) in let l : 5 ≤ length t = five_long t first in omega (arith, at)

  pub name_there : take (end - 5) (drop 5 t) ≡ name_in t
  unfolding name_in
  name_there = let k : end - 5 ≡ index_of tab (drop 5 t) = omega (arith, at) in ap (λ n. take n (drop 5 t)) k

  ends : 5 + length (name_in t) ≡ end
  ends = let n : length (name_in t) ≡ end - 5 = name_length in omega (arith, at)

  sum_there : word_by capital_of t (end + 1) ≡ sum_in t
  unfolding sum_in
  sum_there = ap (λ n. word_by capital_of t (n + 1)) (sym ends)

  -- a search that ends within the text found the tab
  tab_there : end < length t → get_or t end 0 ≡ tab
  tab_there h =
      let short : index_of tab (drop 5 t) < length (drop 5 t) = rw length-drop (omega (arith, at, five_long t first)) in
      ap (λ n. get_or t n 0) at ∙ (sym (get_or-drop 5 t (index_of tab (drop 5 t)) 0) ∙ index_here tab (drop 5 t) short)

  is_new_here : is_new t ≡ true
  unfolding is_new
  is_new_here = eq-eqb (get_or t 4 0) tab first

  tells : line_ok t ≡ true → NewIs t
  tells e = new_is t e is_new_here

  pub head_no_name : name_ok (take (end - 5) (drop 5 t)) ≡ false → line_ok t ≡ false
  head_no_name f = fails (line_ok t) (λ e. true_not_false (tells e).name_ok_lem (ap name_ok (sym name_there) ∙ f))

  pub head_no_sum : below 65536 (word_by capital_of t (end + 1)) ≡ None → line_ok t ≡ false
  head_no_sum h = fails (line_ok t) (λ e. let s : sum_in t < 65536 = (tells e).sum_small in omega (arith, below_none 65536 _ h, sum_there))

  pub head_no_end : eqb (get_or t (end + 5) 0) lf ≡ false → line_ok t ≡ false
  head_no_end f =
      let place : end + 5 ≡ 5 + length (name_in t) + 1 + 4 = omega (arith, ends) in
      fails (line_ok t) (λ e. true_not_false (eq-eqb (get_or t (end + 5) 0) lf (ap (λ n. get_or t n 0) place ∙ (tells e).end_here)) f)

  module _ (named : name_ok (take (end - 5) (drop 5 t)) ≡ true) (sum : ℕ) (is : below 65536 (word_by capital_of t (end + 1)) ≡ Some sum) (e : eqb (get_or t (end + 5) 0) lf ≡ true) where
    lf_there : get_or t (end + 5) 0 ≡ lf
    lf_there = eqb-true (get_or t (end + 5) 0) lf e

    -- LF stands within the text
    pub end_inside : end + 6 ≤ length t
    end_inside = let short : end + 5 < length t = inside t (end + 5) lf lf_there (omega arith) in omega arith

    pub head_new : (id : ℕ) → id ≡ id_in t → id < 0x4000 → HeadOf t id (take (length t - (end + 6)) (drop (end + 6) t)) × LabelOf t (take (end - 5) (drop 5 t)) sum
    head_new id same small =
        let short : end + 6 ≤ length t = end_inside in
        let place : end + 5 ≡ 5 + length (name_in t) + 1 + 4 = omega (arith, ends) in
        let parts : NewIs t = record {
          first_tab = first;
          name_ok_lem = ap name_ok (sym name_there) ∙ named;
          sum_small = rw sum_there at (below_some 65536 _ sum is).0;
          next_tab = ap (λ n. get_or t n 0) ends ∙ tab_there (omega arith);
          end_here = ap (λ n. get_or t n 0) (sym place) ∙ lf_there;
        } in (
          record {
            ok = line_new t (rw same at small) parts;
            id_is = same;
            rest_is = rest_cut t (end + 6) (sym (ap length (is_new_lem t is_new_here) ∙ (length_new (id_in t) (name_in t) (sum_in t) ∙ omega (arith, ends))));
          },
          record { new = is_new_here; name_is = name_there; sum_is = sym (below_some 65536 _ sum is).1 ∙ sum_there },
        )

-- ---- the answer of the call

-- the ID that it gives is a word, also beside a refusal
module _ (t : List ℕ) where
  pub id_small : (first_line t).id < 0x4000
  unfolding first_line
  id_small = by (line_ok t) refl
    where
      by : (b : Bool) → line_ok t ≡ b → (pick {A = Line1} b (record { number = 0; id = id_in t }) (record { number = 14; id = 0 })).id < 0x4000
      by true e = unfold pick in line_id t e
      by false e = unfold pick in omega arith

  -- of a line that is not refused it is the number that stands there
  pub id_stands : (first_line t).number ≡ 0 → (first_line t).id ≡ id_in t
  unfolding first_line
  id_stands = by (line_ok t)
    where
      by : (b : Bool) → (pick {A = Line1} b (record { number = 0; id = id_in t }) (record { number = 14; id = 0 })).number ≡ 0
          → (pick {A = Line1} b (record { number = 0; id = id_in t }) (record { number = 14; id = 0 })).id ≡ id_in t
      by true z = unfold pick in refl
      by false z = absurd (unfold pick in omega (arith, z))

  pub first_refused : line_ok t ≡ false → record { number = 14; id = 0 } ≡ first_line t
  unfolding first_line
  first_refused f = sym (pick_false (line_ok t) _ _ f)

  pub first_given : line_ok t ≡ true → (id : ℕ) → id ≡ id_in t → record { number = 0; id = id } ≡ first_line t
  unfolding first_line
  first_given e id is = (λ i. record { number = 0; id = is i }) ∙ sym (pick_true (line_ok t) _ _ e)

pub first_small : (t : List ℕ) (first : Line1) → first ≡ first_line t → first.id < 0x4000
first_small t first e = rw (ap (λ x. x.id) e) (id_small t)

-- ---- what is written is read back

-- no tab stands in a name
name_end : (name r : List ℕ) → all_printable name ≡ true → index_of tab (name ++ (tab ∷ r)) ≡ length name
unfolding all_printable index_of index_after
name_end [] r e = refl
name_end (c ∷ name) r e =
    let p : within 0x20 0x7e c ≡ true = first_holds (within 0x20 0x7e c) (all_printable name) e in
    let n : eqb c tab ≡ false = ne_eqb c tab (λ z. true_not_false p (within_low 0x20 0x7e c (omega (arith, z)))) in
    let rest : index_of tab (name ++ (tab ∷ r)) ≡ length name = name_end name r (second_holds (within 0x20 0x7e c) (all_printable name) e) in
    rw (n, rest)

-- the rest, where line 1 is known
rest_after : (t line r : List ℕ) → line_in t ≡ line → t ≡ line ++ r → rest_in t ≡ r
unfolding rest_in
rest_after t line r e w = ap (λ l. drop (length l) t) e ∙ (ap (drop (length line)) w ∙ drop-append_seam line r)

module _ (id : ℕ) (small : id < 0x4000) (r : List ℕ) where
  -- what stands on line 1 of the old form, and after it
  pub record OldRead (t : List ℕ) : Type 0 where
    pub line_ok : line_ok t ≡ true
    pub form : is_new t ≡ false
    pub id_is : id_in t ≡ id
    pub rest_is : rest_in t ≡ r

  old_digits : (t : List ℕ) → Stands 0 (old_line id) t → id_in t ≡ id
  unfolding old_line
  old_digits t p = word_stands t 0 id (stands_left 0 (word_text id) (lf ∷ []) t p) (omega arith)

  pub old_read : OldRead (old_line id ++ r)
  old_read =
      let t : List ℕ = old_line id ++ r in
      let p : Stands 0 (old_line id) t = front_stands (old_line id) t (take-append_seam (old_line id) r) in
      let here : get_or t 4 0 ≡ lf = old_end id t p in
      let is : id_in t ≡ id = old_digits t p in
      let low : id_in t < 0x4000 = rw is small in
      let f : is_new t ≡ false = old_form t low here in
      record {
        line_ok = line_old t low here;
        form = f;
        id_is = is;
        rest_is = rest_after t (old_line id) r (is_old t f ∙ ap old_line is) refl;
      }

module _ (id : ℕ) (small : id < 0x4000) (name : List ℕ) (named : name_ok name ≡ true) (sum : ℕ) (low : sum < 65536) (r : List ℕ) where
  -- what stands on line 1 of the new form, and after it
  pub record NewRead (t : List ℕ) : Type 0 where
    pub line_ok : line_ok t ≡ true
    pub form : is_new t ≡ true
    pub id_is : id_in t ≡ id
    pub name_is : name_in t ≡ name
    pub sum_is : sum_in t ≡ sum
    pub rest_is : rest_in t ≡ r

  last : List ℕ
  last = word_text sum ++ (lf ∷ [])

  new_rest : drop 5 (new_line id name sum ++ r) ≡ name ++ (tab ∷ (last ++ r))
  unfolding new_line last
  new_rest =
      ap (drop 5) (append_assoc (word_text id) (tab ∷ (name ++ (tab ∷ last))) r)
      ∙ (rw length_word_text at (drop-append-add (word_text id) (tab ∷ ((name ++ (tab ∷ last)) ++ r)) 1)
      ∙ append_assoc name (tab ∷ last) r)

  printable : all_printable name ≡ true
  unfolding name_ok
  printable = second_holds (leb 1 (length name) && leb (length name) 16) (all_printable name) named

  new_name : name_in (new_line id name sum ++ r) ≡ name
  unfolding name_in
  new_name =
      ap (λ l. take (index_of tab l) l) new_rest
      ∙ (ap (λ n. take n (name ++ (tab ∷ (last ++ r)))) (name_end name (last ++ r) printable) ∙ take-append_seam name (tab ∷ (last ++ r)))

  new_sum : (t : List ℕ) → name_in t ≡ name → Fields id name sum t → sum_in t ≡ sum
  unfolding sum_in
  new_sum t e p = ap (λ l. word_by capital_of t (5 + length l + 1)) e ∙ word_stands t (5 + length name + 1) sum p.sum_here low

  pub new_read : NewRead (new_line id name sum ++ r)
  new_read =
      let t : List ℕ = new_line id name sum ++ r in
      let p : Fields id name sum t = fields_stand id name sum t (front_stands (new_line id name sum) t (take-append_seam (new_line id name sum) r)) in
      let is : id_in t ≡ id = word_stands t 0 id p.id_here (omega arith) in
      let low_id : id_in t < 0x4000 = rw is small in
      let named_as : name_in t ≡ name = new_name in
      let summed_as : sum_in t ≡ sum = new_sum t named_as p in
      let y : is_new t ≡ true = tab_new t p.first_tab in
      let parts : NewIs t = record {
        first_tab = p.first_tab;
        name_ok_lem = ap name_ok named_as ∙ named;
        sum_small = rw summed_as low;
        next_tab = ap (λ l. get_or t (5 + length l) 0) named_as ∙ p.next_tab;
        end_here = ap (λ l. get_or t (5 + length l + 1 + 4) 0) named_as ∙ p.end_here;
      } in
      record {
        line_ok = line_new t low_id parts;
        form = y;
        id_is = is;
        name_is = named_as;
        sum_is = summed_as;
        rest_is = rest_after t (new_line id name sum) r (is_new_lem t y ∙ (λ i. new_line (is i) (named_as i) (summed_as i))) refl;
      }

-- ---- what is read is written back

module _ (t : List ℕ) (ok : line_ok t ≡ true) where
  whole : line_in t ++ rest_in t ≡ t
  unfolding rest_in
  whole = ap (λ l. l ++ drop (length (line_in t)) t) (sym (line_front t ok)) ∙ take-append-drop (length (line_in t)) t

  pub old_whole : is_new t ≡ false → old_line (id_in t) ++ rest_in t ≡ t
  old_whole f = ap (λ l. l ++ rest_in t) (sym (is_old t f)) ∙ whole

  pub new_whole : is_new t ≡ true → new_line (id_in t) (name_in t) (sum_in t) ++ rest_in t ≡ t
  new_whole y = ap (λ l. l ++ rest_in t) (sym (is_new_lem t y)) ∙ whole

-- ---- the answer by what it tells

pub id_told_unique : (a b : Result ℕ Refusal) → id_told a ≡ id_told b → a ≡ b
id_told_unique a b e = answer_unique 0 a b (ap (λ x. x.number) e) (ap (λ x. x.id) e)
