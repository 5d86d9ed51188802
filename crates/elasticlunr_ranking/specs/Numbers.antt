-- The numbers of a score, each by the bits of its double. Where a number is no sum of few powers of
-- two, the comment says which one it is the nearest double to.
use Rattle.std.specs.Prelude.{ℕ, ◌^◌, from_bits}
use Rattle.std.specs.Float.{Float, binary64}

abbrev pub double : ℕ → Float
double bits = from_bits binary64 bits

abbrev pub zero_double : Float
zero_double = double 0x0000_0000_0000_0000

abbrev pub half : Float
half = double 0x3fe0_0000_0000_0000

abbrev pub one_double : Float
one_double = double 0x3ff0_0000_0000_0000

abbrev pub two_double : Float
two_double = double 0x4000_0000_0000_0000

abbrev pub minus_infinity : Float
minus_infinity = double 0xfff0_0000_0000_0000

-- 15/100: what elasticlunr.js lets a longer word count
abbrev pub expanded : Float
expanded = double 0x3fc3_3333_3333_3333

-- the first character that UTF-16 writes in two units
abbrev pub first_of_two_units : ℕ
first_of_two_units = 0x1_0000

-- The numbers below are those of `e_log.c` of fdlibm.

-- 1/3
abbrev pub third : Float
third = double 0x3fd5_5555_5555_5555

-- the logarithm of 2 in two parts: its first 32 digits, and the rest
abbrev pub ln_2_high : Float
ln_2_high = double 0x3fe6_2e42_fee0_0000

abbrev pub ln_2_low : Float
ln_2_low = double 0x3dea_39ef_3579_3c76

-- the coefficients of the series, which are near 2/3, 2/5, 2/7, 2/9, 2/11, 2/13 and 2/15
abbrev pub coefficient_1 : Float
coefficient_1 = double 0x3fe5_5555_5555_5593

abbrev pub coefficient_2 : Float
coefficient_2 = double 0x3fd9_9999_9997_fa04

abbrev pub coefficient_3 : Float
coefficient_3 = double 0x3fd2_4924_9422_9359

abbrev pub coefficient_4 : Float
coefficient_4 = double 0x3fcc_71c5_1d8e_78af

abbrev pub coefficient_5 : Float
coefficient_5 = double 0x3fc7_4664_96cb_03de

abbrev pub coefficient_6 : Float
coefficient_6 = double 0x3fc3_9a09_d078_c69f

abbrev pub coefficient_7 : Float
coefficient_7 = double 0x3fc2_f112_df3e_5244

-- how many fractions there are to an exponent, and how many of them have the same upper 20 digits
abbrev pub fractions : ℕ
fractions = 2 ^ 52

abbrev pub lower_fractions : ℕ
lower_fractions = 2 ^ 32

-- the exponents that the doubles from 1 to 2 and those from 1/2 to 1 are written with, 1023 and
-- 1022, and the bits of 1 and of 1/2
abbrev pub exponent_of_one : Float
exponent_of_one = double 0x408f_f800_0000_0000

abbrev pub exponent_of_half : Float
exponent_of_half = double 0x408f_f000_0000_0000

abbrev pub bits_of_one : ℕ
bits_of_one = 0x3ff0_0000_0000_0000

abbrev pub bits_of_half : ℕ
bits_of_half = 0x3fe0_0000_0000_0000

-- the upper 20 digits of the first fraction above the root of 2, of the last two below 2, and of
-- the first and the last one where half the square of f counts first
abbrev pub first_halved : ℕ
first_halved = 0x6a09c

abbrev pub first_near_two : ℕ
first_near_two = 0xffffe

abbrev pub first_in_middle : ℕ
first_in_middle = 0x6147a

abbrev pub last_in_middle : ℕ
last_in_middle = 0x6b851
