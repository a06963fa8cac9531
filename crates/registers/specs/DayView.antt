-- Document 01, "Day view and statement", first paragraph. d is a day (1 is the first) and k a register number.
use Rattle.std.specs.Prelude.{◌≡◌, Bool, cond, Option, None, Some, ◌||◌, List, ℕ, ◌+◌, ◌-◌, ◌*◌, eqb, ltb, take, drop}
use Rattle.std.specs.Borrow.{Bor}
use Rattle.calendar.specs.Calendar.{last_month, days_in, day_length, readings_through}
use Rattle.registers.specs.Registers.{length_refused}

-- "exactly when the month is above 1199, the day isn't in the month, a register has the wrong length, or the number isn't 0 or 1"
unfoldable pub empty_view : List ℕ → List ℕ → ℕ → ℕ → ℕ → Bool
empty_view delivered received m d k =
    ltb last_month m || (ltb d 1 || ltb (days_in m) d) || (length_refused m delivered || length_refused m received) || ltb 1 k

-- Where that day's readings start in the register named, and how many they are; none where the view is empty.
unfoldable pub part_shown : List ℕ → List ℕ → ℕ → ℕ → ℕ → Option (ℕ × ℕ)
part_shown delivered received m d k = cond (empty_view delivered received m d k) None (Some (readings_through m (d - 1), day_length m d))

-- A part of a lent register: where it starts, and how many readings it has.
pub record Part : Type 0 where
  pub register : Bor (List ℕ)
  pub start : ℕ
  pub count : ℕ

-- "that day's ninety-six readings as a part of the register named" (0 delivered, 1 received), by 02 No. 1 as many as the day has; or "the empty
-- part at the front of the delivered register".
unfoldable pub view_of : Bor (List ℕ) → Bor (List ℕ) → ℕ → ℕ → ℕ → Part
view_of delivered received m d k =
    cond (empty_view delivered.now received.now m d k)
    (record { register = delivered; start = 0; count = 0 })
    (record { register = cond (eqb k 0) delivered received; start = readings_through m (d - 1); count = day_length m d })

-- "not a copy": what is handed back, v, lies in the register's memory, 4 bytes for each reading before it, and reads as that part.
-- 02 No. 4: "the day view shows the mark", as the register itself does.
pub record IsPart (p : Part) (v : Bor (List ℕ)) : Type 0 where
  pub place : v.ref_ptr ≡ (p.register.ref_ptr.0, p.start * 4 + p.register.ref_ptr.1)
  pub readings : v.now ≡ take p.count (drop p.start p.register.now)
