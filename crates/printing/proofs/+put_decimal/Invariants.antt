use Rattle.printing.proofs.+put_decimal.Given as goal

-- the measure is the number
abbrev pub decreases-put_decimal : goal.decreases-put_decimal
decreases-put_decimal l = l.x
