use Rattle.packets.proofs.numbers.+size_of_number.Given as goal

abbrev pub decreases-size_of_number : goal.decreases-size_of_number
decreases-size_of_number l = l.value
