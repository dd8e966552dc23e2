-- The draws: a linear congruential generator whose states are below 2 ^ 31, and which gives the upper 15 bits of each.
use Rattle.std.specs.Prelude.{ℕ, ◌+◌, ◌*◌, ◌/◌, ◌%◌}

-- the state after one draw more
abbrev pub drawn : ℕ → ℕ
drawn state = (1103515245 * state + 12345) % 2147483648

-- what the draw gives that led to this state
abbrev pub draw_of : ℕ → ℕ
draw_of state = state / 65536
