-- Whether a line begins with a text, byte after byte.
use mathlib.Core.Path.{◌≡◌, refl, sym, ◌∙◌}
use mathlib.Core.Bool.{Bool, true, false, false≢true, ◌&&◌, and-false}
use mathlib.Core.List.{List, [], ◌∷◌}
use Prim.Native.Nat.{ℕ, suc, ◌≤◌, ◌<◌}
use native.Mathlib.Omega.{arith}
use borrow.Author.Tests.{eq-eqb, ne_eqb, eqb-true}
use lib.Dec.{eqb, eqb-suc-suc}
use lib.ListN.{length, take, drop, get_or-eq_default}
use Rattle.std.specs.Cmp.Lexicographic.{pointwise}
use Rattle.grammar.specs.Grammar.{begins_with, is_text, keyed, opening_lines, opening_line}

-- It is what std asks for.
eqb_swap : (a b : ℕ) → eqb a b ≡ eqb b a
eqb_swap a b = by (eqb a b) refl
  where
    by : (t : Bool) → eqb a b ≡ t → t ≡ eqb b a
    by true e = sym (eq-eqb b a (sym (eqb-true a b e)))
    by false e = sym (ne_eqb b a (λ f. false≢true (sym e ∙ eq-eqb a b (sym f))))

pub begins_is : (text line : List ℕ) → begins_with text line ≡ pointwise eqb (take (length text) line) text
unfolding begins_with
begins_is [] line = refl
begins_is (b ∷ text) [] = refl
begins_is (b ∷ text) (x ∷ line) = rw (begins_is text line, eqb_swap b x)

pub text_is : (text line : List ℕ) → is_text text line ≡ pointwise eqb line text
unfolding is_text begins_with
text_is [] [] = refl
text_is [] (x ∷ line) = rw (ne_eqb (suc (length line)) 0 (λ e. omega arith))
text_is (b ∷ text) [] = and-false (eqb 0 (suc (length text)))
text_is (b ∷ text) (x ∷ line) = rw (eqb_swap x b, eqb-suc-suc (length line) (length text)) (by (eqb b x) (text_is text line))
  where
    by : (t : Bool) → (eqb (length line) (length text) && begins_with text line) ≡ pointwise eqb line text
        → (eqb (length line) (length text) && (t && begins_with text line)) ≡ (t && pointwise eqb line text)
    by true e = e
    by false e = and-false (eqb (length line) (length text))

-- A line that begins with a text isn't shorter.
pub begins_long : (text line : List ℕ) → begins_with text line ≡ true → length text ≤ length line
unfolding begins_with
begins_long [] line e = omega arith
begins_long (b ∷ text) [] e = absurd (false≢true e)
begins_long (b ∷ text) (x ∷ line) e = by (eqb b x) (begins_long text line) e
  where
    by : (t : Bool) → (begins_with text line ≡ true → length text ≤ length line) → (t && begins_with text line) ≡ true
        → length (b ∷ text) ≤ length (x ∷ line)
    by true rest e = omega (arith, rest e)
    by false rest e = absurd (false≢true e)

pub begins_short : (text line : List ℕ) → length line < length text → begins_with text line ≡ false
begins_short text line h = by (begins_with text line) refl
  where
    by : (b : Bool) → begins_with text line ≡ b → b ≡ false
    by true e = absurd (omega (arith, begins_long text line e))
    by false e = refl

-- What is read after a key.
module _ (key : List ℕ) (read : List ℕ → List ℕ) (l : List ℕ) where
  pub keyed_yes : begins_with key l ≡ true → keyed key read l ≡ read (drop (length key) l)
  unfolding keyed
  keyed_yes e = rw e

  pub keyed_no : begins_with key l ≡ false → keyed key read l ≡ []
  unfolding keyed
  keyed_no e = rw e

-- There are fourteen lines.
pub opening_past : (k : ℕ) (l : List ℕ) → 14 ≤ k → opening_line k l ≡ []
unfolding opening_line
opening_past k l h = rw (get_or-eq_default opening_lines (λ l. []) h)
