use Rattle.std.proofs.Common.{refl, rules}
use Rattle.lay_values.specs.Words.{all_words}
use Rattle.lay_values.proofs.words.beginning_with.Goals as goal

pub returns-in-97 : goal.returns-in-97
unfolding all_words
returns-in-97 c = rw c.in-97.is refl

pub returns-in-98 : goal.returns-in-98
unfolding all_words
returns-in-98 c = rw c.in-98.is refl

pub returns-in-99 : goal.returns-in-99
unfolding all_words
returns-in-99 c = rw c.in-99.is refl

pub returns-in-100 : goal.returns-in-100
unfolding all_words
returns-in-100 c = rw c.in-100.is refl

pub returns-in-102 : goal.returns-in-102
unfolding all_words
returns-in-102 c = rw c.in-102.is refl

pub returns-in-103 : goal.returns-in-103
unfolding all_words
returns-in-103 c = rw c.in-103.is refl

pub returns-in-104 : goal.returns-in-104
unfolding all_words
returns-in-104 c = rw c.in-104.is refl

pub returns-in-105 : goal.returns-in-105
unfolding all_words
returns-in-105 c = rw c.in-105.is refl

pub returns-in-106 : goal.returns-in-106
unfolding all_words
returns-in-106 c = rw c.in-106.is refl

pub returns-in-108 : goal.returns-in-108
unfolding all_words
returns-in-108 c = rw c.in-108.is refl

pub returns-in-109 : goal.returns-in-109
unfolding all_words
returns-in-109 c = rw c.in-109.is refl

pub returns-in-110 : goal.returns-in-110
unfolding all_words
returns-in-110 c = rw c.in-110.is refl

pub returns-in-111 : goal.returns-in-111
unfolding all_words
returns-in-111 c = rw c.in-111.is refl

pub returns-in-112 : goal.returns-in-112
unfolding all_words
returns-in-112 c = rw c.in-112.is refl

pub returns-in-114 : goal.returns-in-114
unfolding all_words
returns-in-114 c = rw c.in-114.is refl

pub returns-in-115 : goal.returns-in-115
unfolding all_words
returns-in-115 c = rw c.in-115.is refl

pub returns-in-116 : goal.returns-in-116
unfolding all_words
returns-in-116 c = rw c.in-116.is refl

pub returns-in-118 : goal.returns-in-118
unfolding all_words
returns-in-118 c = rw c.in-118.is refl

pub returns-in-120 : goal.returns-in-120
unfolding all_words
returns-in-120 c = rw c.in-120.is refl

pub returns-in_default : goal.returns-in_default
unfolding all_words
returns-in_default c = search rules
