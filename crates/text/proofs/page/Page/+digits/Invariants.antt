use Rattle.text.proofs.page.Page.+digits.Given as goal

-- a tenth of a number is less than the number
abbrev pub decreases-digits : goal.decreases-digits
decreases-digits l = l.n
