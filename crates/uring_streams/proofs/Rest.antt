-- Bytes that are read from a place on.
use Rattle.std.proofs.Common.{◌≡◌, ℕ, ◌+◌, ◌-◌, ◌≤◌, ◌<◌, List, [], ◌++◌, length, take, drop, min, sym, arith}
use Rattle.std.proofs.lemmas.List.{take-append-drop, drop-drop}
use Rattle.std.proofs.Math.Seq.{take-append_seam}
use Rattle.std.proofs.Math.ListN.{drop_of_length-le}
use Rattle.std.proofs.lemmas.Grind.{common_steps}

front_is : (xs ys : List ℕ) (n : ℕ) → length xs ≡ n → take n (xs ++ ys) ≡ xs
front_is xs ys n e = rw (← e) (take-append_seam xs ys)

-- what was left is the bytes that were placed at the front of the room, and what is left behind them
pub placed_then_left : (bytes given room : List ℕ) (at n : ℕ) → length given ≡ n → given ≡ take n (drop at bytes) → drop at bytes ≡ take n (given ++ room) ++ drop (at + n) bytes
placed_then_left bytes given room at n e is =
    let front : take n (given ++ room) ≡ given = front_is given room n e in
    let rest : drop n (drop at bytes) ≡ drop (at + n) bytes = drop-drop n at bytes in
    rw (front, ← rest, is) (sym (take-append-drop n (drop at bytes)))

-- where nothing was placed and there was room, nothing was left
pub none_placed : (bytes given room : List ℕ) (at n : ℕ) → length given ≡ n → n ≡ min (length room) (length bytes - at) → n ≡ 0 → 0 < length (given ++ drop n room) → drop (at + n) bytes ≡ []
none_placed bytes given room at n e is zero some =
    let within : length bytes ≤ at + n = grind (arith, common_steps) in
    drop_of_length-le bytes within
