-- What a clause reads of the ledgers.
use Rattle.std.specs.Prelude.{ℕ, zero, suc}
use Rattle.live_log.specs.declared.append_counts.AppendRight.{AppendRight}
use Rattle.live_log.specs.declared.append_counts.AppendRight.TheVariants.{One, Two, Three, Four, Five, Six, Seven, Eight, Nine, Ten, Eleven, Twelve, Thirteen, Fourteen, Fifteen, Sixteen}
use Rattle.live_log.specs.declared.append_counts.AppendRights.{AppendRights}
use Rattle.live_log.specs.declared.append_counts.AppendCounts.{AppendCounts}

module _ {J : Type 0} where
  abbrev pub number_of : AppendRight J → ℕ
  number_of (One s) = 1
  number_of (Two s) = 2
  number_of (Three s) = 3
  number_of (Four s) = 4
  number_of (Five s) = 5
  number_of (Six s) = 6
  number_of (Seven s) = 7
  number_of (Eight s) = 8
  number_of (Nine s) = 9
  number_of (Ten s) = 10
  number_of (Eleven s) = 11
  number_of (Twelve s) = 12
  number_of (Thirteen s) = 13
  number_of (Fourteen s) = 14
  number_of (Fifteen s) = 15
  number_of (Sixteen s) = 16

  abbrev pub count_of : AppendRight J → ℕ
  count_of (One s) = s.amount
  count_of (Two s) = s.amount
  count_of (Three s) = s.amount
  count_of (Four s) = s.amount
  count_of (Five s) = s.amount
  count_of (Six s) = s.amount
  count_of (Seven s) = s.amount
  count_of (Eight s) = s.amount
  count_of (Nine s) = s.amount
  count_of (Ten s) = s.amount
  count_of (Eleven s) = s.amount
  count_of (Twelve s) = s.amount
  count_of (Thirteen s) = s.amount
  count_of (Fourteen s) = s.amount
  count_of (Fifteen s) = s.amount
  count_of (Sixteen s) = s.amount

  abbrev pub parts_of : AppendRight J → ℕ
  parts_of (One s) = s.parts
  parts_of (Two s) = s.parts
  parts_of (Three s) = s.parts
  parts_of (Four s) = s.parts
  parts_of (Five s) = s.parts
  parts_of (Six s) = s.parts
  parts_of (Seven s) = s.parts
  parts_of (Eight s) = s.parts
  parts_of (Nine s) = s.parts
  parts_of (Ten s) = s.parts
  parts_of (Eleven s) = s.parts
  parts_of (Twelve s) = s.parts
  parts_of (Thirteen s) = s.parts
  parts_of (Fourteen s) = s.parts
  parts_of (Fifteen s) = s.parts
  parts_of (Sixteen s) = s.parts

  abbrev pub total_at : AppendCounts J → ℕ → ℕ
  total_at t (suc zero) = t.one.total
  total_at t (suc (suc zero)) = t.two.total
  total_at t (suc (suc (suc zero))) = t.three.total
  total_at t (suc (suc (suc (suc zero)))) = t.four.total
  total_at t (suc (suc (suc (suc (suc zero))))) = t.five.total
  total_at t (suc (suc (suc (suc (suc (suc zero)))))) = t.six.total
  total_at t (suc (suc (suc (suc (suc (suc (suc zero))))))) = t.seven.total
  total_at t (suc (suc (suc (suc (suc (suc (suc (suc zero)))))))) = t.eight.total
  total_at t (suc (suc (suc (suc (suc (suc (suc (suc (suc zero))))))))) = t.nine.total
  total_at t (suc (suc (suc (suc (suc (suc (suc (suc (suc (suc zero)))))))))) = t.ten.total
  total_at t (suc (suc (suc (suc (suc (suc (suc (suc (suc (suc (suc zero))))))))))) = t.eleven.total
  total_at t (suc (suc (suc (suc (suc (suc (suc (suc (suc (suc (suc (suc zero)))))))))))) = t.twelve.total
  total_at t (suc (suc (suc (suc (suc (suc (suc (suc (suc (suc (suc (suc (suc zero))))))))))))) = t.thirteen.total
  total_at t (suc (suc (suc (suc (suc (suc (suc (suc (suc (suc (suc (suc (suc (suc zero)))))))))))))) = t.fourteen.total
  total_at t (suc (suc (suc (suc (suc (suc (suc (suc (suc (suc (suc (suc (suc (suc (suc zero))))))))))))))) = t.fifteen.total
  total_at t (suc (suc (suc (suc (suc (suc (suc (suc (suc (suc (suc (suc (suc (suc (suc (suc zero)))))))))))))))) = t.sixteen.total
  total_at t n = 0

  abbrev pub part_at : AppendRights J → ℕ → ℕ
  part_at t (suc zero) = t.one.parts
  part_at t (suc (suc zero)) = t.two.parts
  part_at t (suc (suc (suc zero))) = t.three.parts
  part_at t (suc (suc (suc (suc zero)))) = t.four.parts
  part_at t (suc (suc (suc (suc (suc zero))))) = t.five.parts
  part_at t (suc (suc (suc (suc (suc (suc zero)))))) = t.six.parts
  part_at t (suc (suc (suc (suc (suc (suc (suc zero))))))) = t.seven.parts
  part_at t (suc (suc (suc (suc (suc (suc (suc (suc zero)))))))) = t.eight.parts
  part_at t (suc (suc (suc (suc (suc (suc (suc (suc (suc zero))))))))) = t.nine.parts
  part_at t (suc (suc (suc (suc (suc (suc (suc (suc (suc (suc zero)))))))))) = t.ten.parts
  part_at t (suc (suc (suc (suc (suc (suc (suc (suc (suc (suc (suc zero))))))))))) = t.eleven.parts
  part_at t (suc (suc (suc (suc (suc (suc (suc (suc (suc (suc (suc (suc zero)))))))))))) = t.twelve.parts
  part_at t (suc (suc (suc (suc (suc (suc (suc (suc (suc (suc (suc (suc (suc zero))))))))))))) = t.thirteen.parts
  part_at t (suc (suc (suc (suc (suc (suc (suc (suc (suc (suc (suc (suc (suc (suc zero)))))))))))))) = t.fourteen.parts
  part_at t (suc (suc (suc (suc (suc (suc (suc (suc (suc (suc (suc (suc (suc (suc (suc zero))))))))))))))) = t.fifteen.parts
  part_at t (suc (suc (suc (suc (suc (suc (suc (suc (suc (suc (suc (suc (suc (suc (suc (suc zero)))))))))))))))) = t.sixteen.parts
  part_at t n = 0

  abbrev pub amount_at : AppendRights J → ℕ → ℕ
  amount_at t (suc zero) = t.one.amount
  amount_at t (suc (suc zero)) = t.two.amount
  amount_at t (suc (suc (suc zero))) = t.three.amount
  amount_at t (suc (suc (suc (suc zero)))) = t.four.amount
  amount_at t (suc (suc (suc (suc (suc zero))))) = t.five.amount
  amount_at t (suc (suc (suc (suc (suc (suc zero)))))) = t.six.amount
  amount_at t (suc (suc (suc (suc (suc (suc (suc zero))))))) = t.seven.amount
  amount_at t (suc (suc (suc (suc (suc (suc (suc (suc zero)))))))) = t.eight.amount
  amount_at t (suc (suc (suc (suc (suc (suc (suc (suc (suc zero))))))))) = t.nine.amount
  amount_at t (suc (suc (suc (suc (suc (suc (suc (suc (suc (suc zero)))))))))) = t.ten.amount
  amount_at t (suc (suc (suc (suc (suc (suc (suc (suc (suc (suc (suc zero))))))))))) = t.eleven.amount
  amount_at t (suc (suc (suc (suc (suc (suc (suc (suc (suc (suc (suc (suc zero)))))))))))) = t.twelve.amount
  amount_at t (suc (suc (suc (suc (suc (suc (suc (suc (suc (suc (suc (suc (suc zero))))))))))))) = t.thirteen.amount
  amount_at t (suc (suc (suc (suc (suc (suc (suc (suc (suc (suc (suc (suc (suc (suc zero)))))))))))))) = t.fourteen.amount
  amount_at t (suc (suc (suc (suc (suc (suc (suc (suc (suc (suc (suc (suc (suc (suc (suc zero))))))))))))))) = t.fifteen.amount
  amount_at t (suc (suc (suc (suc (suc (suc (suc (suc (suc (suc (suc (suc (suc (suc (suc (suc zero)))))))))))))))) = t.sixteen.amount
  amount_at t n = 0
